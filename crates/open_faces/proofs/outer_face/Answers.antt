use borrow.Author.Rules.{rules}
use Rattle.laws.specs.Faces.{Holds}
use Rattle.rules.specs.Division.{outer_faces}
use Rattle.rules.specs.Step.{outer_resistance}
use Rattle.open_faces.proofs.outer_face.Goals as goal

pub overflow_sub-result : goal.overflow_sub-result
unfolding Holds
overflow_sub-result c = search rules

pub returns-in-Closed : goal.returns-in-Closed
unfolding outer_faces
returns-in-Closed c = rw c.in-Closed.is

pub returns-in-Drained : goal.returns-in-Drained
unfolding Holds outer_faces outer_resistance
returns-in-Drained c = search rules
