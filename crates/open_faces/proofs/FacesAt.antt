-- The inner and drained faces of a layer as arrays hold it: how many, each by its number, and that none is out of range.
use Prim.Native.Nat.{ℕ, ◌+◌, ◌-◌, ◌≤◌, ◌<◌}
use native.Mathlib.Nat.{not-suc-le-zero}
use native.Mathlib.Numerals.{add-one}
use native.Mathlib.Omega.{arith}
use lib.Dec.{ltb, ltb→lt, nltb→le, lit≤}
use lib.IntN.{ℤ}
use lib.ListN.{length, get_or, drop, length-drop}
use mathlib.Core.List.{List, [], ◌∷◌}
use mathlib.Core.Path.{◌≡◌, refl, sym, ap, ◌∙◌}
use Rattle.element.specs.Elements.{Readable, element_in, elements_in}
use Rattle.laws.proofs.OpenFaces.{open_count, inner_at, top_at, bottom_at, above_at}
use Rattle.laws.specs.Divisions.{no_face}
use Rattle.laws.specs.Faces.{Holds, HeldWithin}
use Rattle.laws.specs.Most.{most_excess, most_difference, most_resistance, most_face_resistance}
use Rattle.numbers.proofs.Filled.{length-tabulate, get_or-tabulate, drop-tabulate}
use Rattle.numbers.proofs.Interval.{within-sub, within_le}
use Rattle.numbers.proofs.Searches.{by_test}
use Rattle.numbers.specs.Interval.{Within}
use Rattle.open_faces.specs.Faces.{face_count, face_in}
use Rattle.quantities.specs.declared.Face.{Face}
use Rattle.quantities.specs.declared.Face.TheVariants.{Closed, Drained}
use Rattle.rules.specs.Division.{inner_face, outer_faces, faces_above, open_faces}
use Rattle.rules.specs.Layer.{Element}
use Rattle.rules.specs.Record.{face_number}
use Rattle.rules.specs.Step.{inner_resistance, outer_resistance}
use Rattle.rules.specs.declared.faces.OpenFace.{OpenFace}

-- a face is at most one
pub face_most : (face : Face) → face_number face ≤ 1
unfolding face_number
face_most Closed = omega arith
face_most (Drained held) = omega arith

module _ (n : ℕ) (top bottom : Face) (excess : List ℤ) (resistance : List ℕ) (some : 0 < n) where
  abbrev at : ℕ → Element
  at = element_in excess resistance []

  abbrev es : List Element
  es = elements_in n excess resistance []

  first_is : es ≡ at 0 ∷ drop 1 es
  unfolding elements_in
  first_is = drop-tabulate n at 0 some

  es_length : length es ≡ n
  unfolding elements_in
  es_length = length-tabulate n at

  es_at : (j : ℕ) → j < n → get_or es j (at 0) ≡ at j
  unfolding elements_in
  es_at j h = get_or-tabulate n at j (at 0) h

  -- how many
  pub count_in : length (open_faces top bottom es) ≡ face_count n top bottom
  count_in =
      ap (λ (l : List Element). length (open_faces top bottom l)) first_is ∙ open_count top bottom (at 0) (drop 1 es) ∙
      rw (length-drop 1 es, es_length) refl

  -- the bottom
  pub face_bottom : (k : ℕ) → k < face_number bottom → face_in n top bottom excess resistance k ≡ get_or (outer_faces bottom (at 0)) 0 no_face
  unfolding face_in
  face_bottom k h =
      ap (λ (l : List Element). get_or (open_faces top bottom l) k no_face) first_is ∙ bottom_at top no_face (at 0) (drop 1 es) bottom k h

  module _ (k j : ℕ) (place : k ≡ face_number bottom + j) where
    above : face_in n top bottom excess resistance k ≡ get_or (faces_above top es) j no_face
    unfolding face_in
    above =
        rw place
        (ap (λ (l : List Element). get_or (open_faces top bottom l) (face_number bottom + j) no_face) first_is ∙
        above_at top no_face (at 0) (drop 1 es) bottom j ∙
        ap (λ (l : List Element). get_or (faces_above top l) j no_face) (sym first_is))

    -- between two elements
    pub face_inner : j + 1 < n → face_in n top bottom excess resistance k ≡ inner_face (at j) (at (j + 1))
    face_inner h =
        above ∙ inner_at top no_face (at 0) es j (rw es_length (omega arith)) ∙ rw (es_at j (omega arith), ← add-one j, es_at (j + 1) h) refl

    -- the top
    pub face_top : j + 1 ≡ n → face_in n top bottom excess resistance k ≡ get_or (outer_faces top (at j)) 0 no_face
    face_top h = above ∙ top_at top no_face (at 0) es j (rw es_length (omega arith)) ∙ rw (es_at j (omega arith)) refl

-- ---- ranges

pub record Ranged (face : OpenFace) : Type 0 where
  pub difference_within : Within face.difference most_difference
  pub resistance_positive : 0 < face.resistance
  pub resistance_most : face.resistance ≤ most_face_resistance

outer_ranged : (face : Face) (e : Element) → 0 < face_number face → HeldWithin face → Within e.excess most_excess → 0 < e.resistance →
    e.resistance ≤ most_resistance → Ranged (get_or (outer_faces face e) 0 no_face)
unfolding outer_faces outer_resistance face_number Holds
outer_ranged Closed e some held excess positive most = absurd (not-suc-le-zero some)
outer_ranged (Drained holds) e some held excess positive most = record {
  difference_within = within_le (within-sub excess held) (lit≤ tt);
  resistance_positive = positive;
  resistance_most = omega arith;
}

module _ (n : ℕ) (top bottom : Face) (excess : List ℤ) (resistance : List ℕ) (some : 0 < n) (top_held : HeldWithin top) (bottom_held : HeldWithin bottom)
    (readable : Readable n excess resistance) where
  outer_at : (face : Face) → HeldWithin face → 0 < face_number face → (j : ℕ) → j < n → Ranged (get_or (outer_faces face (element_in excess resistance [] j)) 0 no_face)
  outer_at face held drained j h =
      outer_ranged face (element_in excess resistance [] j) drained held (readable.excess_within j h) (readable.resistance_positive j h) (readable.resistance_most j h)

  inner_ranged : (j : ℕ) → j + 1 < n → Ranged (inner_face (element_in excess resistance [] j) (element_in excess resistance [] (j + 1)))
  unfolding inner_face inner_resistance
  inner_ranged j h =
      let p = readable.resistance_positive j (omega arith) in
      let here = readable.resistance_most j (omega arith) in
      let next = readable.resistance_most (j + 1) h in
      record {
        difference_within = within_le (within-sub (readable.excess_within j (omega arith)) (readable.excess_within (j + 1) h)) (lit≤ tt);
        resistance_positive = omega arith;
        resistance_most = omega arith;
      }

  pub face_ranged : (k : ℕ) → k < face_count n top bottom → Ranged (face_in n top bottom excess resistance k)
  face_ranged k h =
      by_test (ltb k (face_number bottom)) (λ _. Ranged (face_in n top bottom excess resistance k))
      (λ s. let first = ltb→lt k (face_number bottom) s in rw (face_bottom n top bottom excess resistance some k first) (outer_at bottom bottom_held (omega arith) 0 some))
      (λ s.
      let past = nltb→le k (face_number bottom) s in
      let j = k - face_number bottom in
      let place : k ≡ face_number bottom + j = omega arith in
      by_test (ltb (j + 1) n) (λ _. Ranged (face_in n top bottom excess resistance k))
      (λ u. let inner = ltb→lt (j + 1) n u in rw (face_inner n top bottom excess resistance some k j place inner) (inner_ranged j inner))
      (λ u.
      let last = nltb→le (j + 1) n u in
      let one = face_most top in
      let is : j + 1 ≡ n = omega arith in
      rw (face_top n top bottom excess resistance some k j place is) (outer_at top top_held (omega arith) j (omega arith))))
