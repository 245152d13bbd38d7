use borrow.Author.Rules.{rules}
use Rattle.rules.specs.Opening.{blank_record}
use Rattle.record_opening.proofs.blank.Goals as goal

pub returns : goal.returns
unfolding blank_record
returns c = rw c.opening_progress.ensures
