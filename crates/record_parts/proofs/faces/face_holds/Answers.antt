use borrow.Author.Rules.{rules}
use Rattle.rules.specs.Record.{face_holds}
use Rattle.record_parts.proofs.faces.face_holds.Goals as goal

pub returns-in-Closed : goal.returns-in-Closed
unfolding face_holds
returns-in-Closed c = rw c.in-Closed.is

pub returns-in-Drained : goal.returns-in-Drained
unfolding face_holds
returns-in-Drained c = search rules
