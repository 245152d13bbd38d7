use native.Mathlib.Omega.{arith}
use Rattle.open_faces.proofs.FacesAt.{face_most}
use Rattle.open_faces.proofs.face_count.Goals as goal

pub overflow_add-result : goal.overflow_add-result
overflow_add-result c = omega (arith, face_most)

pub overflow_add-result-2 : goal.overflow_add-result-2
overflow_add-result-2 c = omega (arith, face_most)

pub returns : goal.returns
returns c = (omega arith, omega (arith, face_most))
