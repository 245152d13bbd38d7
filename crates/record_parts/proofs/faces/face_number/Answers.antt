use Rattle.rules.specs.Record.{face_number}
use Rattle.record_parts.proofs.faces.face_number.Goals as goal

pub returns-in-Closed : goal.returns-in-Closed
unfolding face_number
returns-in-Closed c = rw c.in-Closed.is

pub returns-in-Drained : goal.returns-in-Drained
unfolding face_number
returns-in-Drained c = rw c.in-Drained.is
