use Prim.Native.Nat.{ℕ, ◌<◌}
use borrow.Author.Rules.{rules}
use lib.IntN.{ℤ}
use mathlib.Core.List.{List}
use mathlib.Core.Path.{◌≡◌}
use native.Mathlib.Omega.{arith}
use Rattle.element.specs.Elements.{Readable}
use Rattle.laws.specs.Faces.{HeldWithin}
use Rattle.numbers.proofs.Filled.{filled_zero, filled_store}
use Rattle.open_faces.proofs.FacesAt.{Ranged, face_ranged}
use Rattle.open_faces.specs.Faces.{face_count, face_in}
use Rattle.quantities.specs.declared.Face.{Face}
use Rattle.rules.specs.declared.faces.OpenFace.{OpenFace}
use Rattle.open_faces.proofs.divide_faces.Goals as goal

-- a face by its number is in range
ranged : {n : ℕ} (top bottom : Face) {excess : List ℤ} {resistance : List ℕ} {k : ℕ} {face : OpenFace} → 0 < n → HeldWithin top × HeldWithin bottom →
    Readable n excess resistance → face ≡ face_in n top bottom excess resistance k → k < face_count n top bottom → Ranged face
ranged top bottom some held readable is here = rw is (face_ranged _ _ _ _ _ some held.0 held.1 readable _ here)

pub loop-k-init : goal.loop-k-init
loop-k-init c = search (rules, filled_zero)

pub flow-requires : goal.flow-requires
flow-requires c =
    let of = c.requires in
    let r = ranged _ _ of.elements_nonzero.0 of.held_within of.readable c.face_at-face.ensures (omega arith) in
    record { within = search rules; t_le_most = of.t_le_most; resistance_nonzero = search rules }

pub flow_remainder-requires : goal.flow_remainder-requires
flow_remainder-requires c =
    let of = c.requires in
    let r = ranged _ _ of.elements_nonzero.0 of.held_within of.readable c.face_at-face.ensures (omega arith) in
    record { within = search rules; t_le_most = of.t_le_most; resistance_nonzero = search rules }

pub loop-k-preserved : goal.loop-k-preserved
loop-k-preserved c = search (rules, filled_store)
