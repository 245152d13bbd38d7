use borrow.Author.Rules.{rules}
use Rattle.rules.specs.Record.{closed_at_zero}
use Rattle.record_parts.proofs.faces.closed_has_no_level.Goals as goal

pub returns-in-Closed : goal.returns-in-Closed
unfolding closed_at_zero
returns-in-Closed c = search rules

pub returns-in-Drained : goal.returns-in-Drained
unfolding closed_at_zero
returns-in-Drained c = rw c.in-Drained.is
