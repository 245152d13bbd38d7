use borrow.Author.Rules.{rules}
use Rattle.rules.specs.Opening.{refused_opening}
use Rattle.record_opening.proofs.refused.Goals as goal

pub returns : goal.returns
unfolding refused_opening
returns c = rw c.blank-after.ensures
