use Prim.Native.Nat.{ℕ, ◌*◌, ◌+◌, ◌<◌}
use lib.IntN.{ℤ}
use lib.Seq.{sets}
use mathlib.Core.List.{List}
use mathlib.Core.Path.{◌≡◌, refl, ap, ◌∙◌}
use Rattle.element.specs.Elements.{Readable}
use Rattle.laws.specs.Faces.{HeldWithin}
use Rattle.open_faces.proofs.FacesAt.{Ranged, face_ranged}
use Rattle.open_faces.specs.Faces.{face_count, face_in}
use Rattle.quantities.specs.declared.Face.{Face}
use Rattle.rules.specs.declared.faces.OpenFace.{OpenFace}
use Rattle.working.proofs.Storing.{stored_none, stored_more}
use Rattle.working.specs.Working.{face_words}
use Rattle.working.proofs.put_faces.Goals as goal

-- what is known of a face by its number
module _ (elements : ℕ) (top bottom : Face) (excess : List ℤ) (resistance : List ℕ) (some : 0 < elements) (held : HeldWithin top × HeldWithin bottom) (readable : Readable elements excess resistance) where
  ranged : {count k : ℕ} {face : OpenFace} → count ≡ face_count elements top bottom → k < count →
      face ≡ face_in elements top bottom excess resistance k → Ranged face
  ranged {count} {k} is h e =
      let below : k < face_count elements top bottom = rw (← is) h in
      rw e (face_ranged elements top bottom excess resistance some held.0 held.1 readable k below)

pub loop-k-init : goal.loop-k-init
loop-k-init c = stored_none 4 _ (λ i. refl) _ 2

pub put_face-requires-clause-within : goal.put_face-requires-clause-within
put_face-requires-clause-within c =
    let r = c.requires in
    (ranged _ _ _ _ _ r.elements_nonzero.0 r.held_within r.readable c.face_count-count.ensures.0 c.loop-k-test.true c.face_at-face.ensures).difference_within

pub put_face-requires-clause-resistance_nonzero : goal.put_face-requires-clause-resistance_nonzero
put_face-requires-clause-resistance_nonzero c =
    let r = c.requires in
    let face = ranged _ _ _ _ _ r.elements_nonzero.0 r.held_within r.readable c.face_count-count.ensures.0 c.loop-k-test.true c.face_at-face.ensures in
    (face.resistance_positive, face.resistance_most)

pub loop-k-preserved : goal.loop-k-preserved
loop-k-preserved c =
    let l = c.loop-k in
    stored_more 4 _ (λ i. refl) _ 2 l.k l.invariant
    (c.put_face.ensures ∙ ap (λ (face : OpenFace). sets l.out (2 + 4 * l.k) (face_words c.args.t face)) c.face_at-face.ensures)
