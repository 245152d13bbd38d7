use mathlib.Core.Path.{◌≡◌}
use Rattle.numbers.specs.Arrays.{filled}
use Rattle.open_faces.specs.Faces.{face_in}
use Rattle.rules.specs.Division.{flow_at, remainder_at}
use Rattle.open_faces.proofs.divide_faces.Given as goal

abbrev pub invariant-loop-k : goal.invariant-loop-k
invariant-loop-k l =
    (l.flows ≡ filled l.initial.flows l.k (λ i. flow_at l.t (face_in l.elements l.top l.bottom l.excess l.resistance i))) ×
    (l.remainders ≡ filled l.initial.remainders l.k (λ i. remainder_at l.t (face_in l.elements l.top l.bottom l.excess l.resistance i)))
