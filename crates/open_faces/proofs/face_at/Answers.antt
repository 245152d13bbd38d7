use borrow.Author.Rules.{rules}
use native.Mathlib.Omega.{arith}
use Rattle.open_faces.proofs.FacesAt.{face_most, face_bottom, face_inner, face_top}
use Rattle.rules.specs.Division.{inner_face}
use Rattle.rules.specs.Step.{inner_resistance}
use Rattle.open_faces.proofs.face_at.Goals as goal

pub returns-then-k-below : goal.returns-then-k-below
returns-then-k-below c = search (rules, face_bottom)

pub overflow_add-next : goal.overflow_add-next
overflow_add-next c = omega (arith, face_most)

pub returns-then-next-elements : goal.returns-then-next-elements
unfolding inner_face inner_resistance
returns-then-next-elements c = search (rules, face_inner)

pub offset_bounds-excess-j-2 : goal.offset_bounds-excess-j-2
offset_bounds-excess-j-2 c = omega (arith, face_most)

pub bounds-excess-j-2 : goal.bounds-excess-j-2
bounds-excess-j-2 c = omega (arith, face_most)

pub offset_bounds-resistance-j-2 : goal.offset_bounds-resistance-j-2
offset_bounds-resistance-j-2 c = omega (arith, face_most)

pub bounds-resistance-j-2 : goal.bounds-resistance-j-2
bounds-resistance-j-2 c = omega (arith, face_most)

pub outer_face-requires-2-clause-within : goal.outer_face-requires-2-clause-within
outer_face-requires-2-clause-within c = search (rules, face_most)

pub returns : goal.returns
returns c = search (rules, face_top, face_most)
