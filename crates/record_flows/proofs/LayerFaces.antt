-- The inner and drained faces of a layer are those of the arrays that hold it.
use Prim.Native.Nat.{ℕ, zero, suc, ◌≤◌}
use native.Mathlib.Omega.{arith}
use lib.IntN.{ℤ}
use lib.ListN.{length, get_or, length-map}
use mathlib.Core.Bool.{true}
use mathlib.Core.List.{List, [], ◌∷◌, map}
use mathlib.Core.Path.{◌≡◌, refl, sym, ap, ◌∙◌}
use Rattle.element.specs.Elements.{element_of, element_in, elements_in}
use Rattle.laws.proofs.OpenFaces.{divides_at_each}
use Rattle.laws.specs.Divisions.{no_face, DividesAtEach}
use Rattle.layer.proofs.StepAt.{map-tabulate}
use Rattle.lent.proofs.LayerReads.{elements_are, readable}
use Rattle.lent.proofs.Standing.{site_is, counted}
use Rattle.lent.specs.Worked.{sensitivities_in, excesses_in, resistances_in}
use Rattle.numbers.proofs.Filled.{tabulated}
use Rattle.numbers.specs.Arrays.{overlaid, filled}
use Rattle.open_faces.proofs.FacesAt.{count_in, face_most, face_ranged}
use Rattle.open_faces.specs.Faces.{face_count, face_in}
use Rattle.quantities.specs.declared.Face.{Face}
use Rattle.quantities.specs.declared.Face.TheVariants.{Closed, Drained}
use Rattle.record_flows.specs.Dividing.{entry_count}
use Rattle.rules.specs.Division.{inner_face, outer_faces, faces_above, open_faces, layer_faces, face_flows, face_remainders, flow_at, remainder_at}
use Rattle.rules.specs.Layer.{Element}
use Rattle.rules.specs.Record.{record_site, record_state, is_layer}
use Rattle.rules.specs.Step.{inner_resistance, outer_resistance}
use Rattle.rules.specs.declared.faces.OpenFace.{OpenFace}
use Rattle.rules.specs.declared.record.Record.{Record}

-- ---- faces do not look at sensitivities

insensitive : Element → Element
insensitive e = element_of e.excess e.resistance 0

outer_insensitive : (face : Face) (e : Element) → outer_faces face (insensitive e) ≡ outer_faces face e
unfolding insensitive outer_faces outer_resistance
outer_insensitive Closed e = refl
outer_insensitive (Drained held) e = refl

above_insensitive : (top : Face) (es : List Element) → faces_above top (map insensitive es) ≡ faces_above top es
unfolding insensitive faces_above inner_face inner_resistance
above_insensitive top [] = refl
above_insensitive top (e ∷ []) = outer_insensitive top e
above_insensitive top (e ∷ f ∷ rest) = ap (λ (l : List OpenFace). inner_face e f ∷ l) (above_insensitive top (f ∷ rest))

open_insensitive : (top bottom : Face) (es : List Element) → open_faces top bottom (map insensitive es) ≡ open_faces top bottom es
unfolding open_faces
open_insensitive top bottom [] = refl
open_insensitive top bottom (e ∷ rest) = rw (outer_insensitive bottom e, above_insensitive top (e ∷ rest)) refl

faces_in : (top bottom : Face) (n : ℕ) (excess : List ℤ) (resistance sensitivity : List ℕ) →
    open_faces top bottom (elements_in n excess resistance sensitivity) ≡ open_faces top bottom (elements_in n excess resistance [])
unfolding elements_in insensitive
faces_in top bottom n excess resistance sensitivity =
    sym (open_insensitive top bottom (elements_in n excess resistance sensitivity)) ∙
    ap (open_faces top bottom) (map-tabulate insensitive n (element_in excess resistance sensitivity))

-- ---- a list by its numbers

map_at : {A B : Type 0} (f : A → B) (l : List A) (k : ℕ) (a : A) → get_or (map f l) k (f a) ≡ f (get_or l k a)
map_at f [] k a = refl
map_at f (x ∷ l) zero a = refl
map_at f (x ∷ l) (suc k) a = map_at f l k a

filled_by : {A B : Type 0} (f : A → B) (l : List A) (a : A) (n : ℕ) (g : ℕ → A) (out : List B) → n ≡ length l → ((k : ℕ) → g k ≡ get_or l k a) →
    filled out n (λ k. f (g k)) ≡ overlaid (map f l) out
unfolding filled
filled_by {B} f l a n g out long same =
    ap (λ (list : List B). overlaid list out)
    (sym (tabulated n (λ k. f (g k)) (map f l) (f a) (length-map l f ∙ sym long) (λ k _. map_at f l k a ∙ ap f (sym (same k)))))

abbrev n : Record → ℕ
n r = r.layer.frame.elements

abbrev top : Record → Face
top r = r.layer.frame.top

abbrev bottom : Record → Face
bottom r = r.layer.frame.bottom

module _ (r : Record) (is : is_layer r ≡ true) (excess₀ : List ℤ) (resistance₀ : List ℕ) where
  abbrev excess : List ℤ
  excess = excesses_in r excess₀

  abbrev resistance : List ℕ
  resistance = resistances_in r resistance₀

  abbrev faces : List OpenFace
  faces = layer_faces (record_site r) (record_state r)

  -- the layer's faces are the arrays'
  faces_are : faces ≡ open_faces (top r) (bottom r) (elements_in (n r) excess resistance [])
  unfolding layer_faces record_site
  faces_are =
      ap (open_faces (top r) (bottom r)) (elements_are r is excess₀ resistance₀) ∙ faces_in (top r) (bottom r) (n r) excess resistance (sensitivities_in r)

  pub faces_count : face_count (n r) (top r) (bottom r) ≡ length faces
  faces_count = sym (rw faces_are (count_in (n r) (top r) (bottom r) excess resistance (counted r is).0))

  pub face_is : (k : ℕ) → face_in (n r) (top r) (bottom r) excess resistance k ≡ get_or faces k no_face
  unfolding face_in
  face_is k = rw faces_are refl

  -- what the arrays' divisions put in the first places
  module _ (t : ℕ) (out : List ℤ) where
    pub flows_are : filled out (face_count (n r) (top r) (bottom r)) (λ k. flow_at t (face_in (n r) (top r) (bottom r) excess resistance k)) ≡
        overlaid (face_flows (record_site r) (record_state r) t) out
    unfolding face_flows
    flows_are = filled_by (flow_at t) faces no_face (face_count (n r) (top r) (bottom r)) (face_in (n r) (top r) (bottom r) excess resistance) out faces_count face_is

    pub remainders_are : filled out (face_count (n r) (top r) (bottom r)) (λ k. remainder_at t (face_in (n r) (top r) (bottom r) excess resistance k)) ≡
        overlaid (face_remainders (record_site r) (record_state r) t) out
    unfolding face_remainders
    remainders_are = filled_by (remainder_at t) faces no_face (face_count (n r) (top r) (bottom r)) (face_in (n r) (top r) (bottom r) excess resistance) out faces_count face_is

-- the same of equal arrays
module _ (r : Record) (is : is_layer r ≡ true) (excess₀ : List ℤ) {excess : List ℤ} (resistance₀ : List ℕ) {resistance : List ℕ} (excess_is : excess ≡ excesses_in r excess₀)
    (resistance_is : resistance ≡ resistances_in r resistance₀) (before : List ℤ) {after : List ℤ} (t : ℕ) where
  pub flows_as :
      after ≡ filled before (face_count (n r) (top r) (bottom r)) (λ k. flow_at t (face_in (n r) (top r) (bottom r) excess resistance k)) →
      after ≡ overlaid (face_flows (record_site r) (record_state r) t) before
  flows_as e = (rw (excess_is, resistance_is) at e) ∙ flows_are r is excess₀ resistance₀ t before

  pub remainders_as :
      after ≡ filled before (face_count (n r) (top r) (bottom r)) (λ k. remainder_at t (face_in (n r) (top r) (bottom r) excess resistance k)) →
      after ≡ overlaid (face_remainders (record_site r) (record_state r) t) before
  remainders_as e = (rw (excess_is, resistance_is) at e) ∙ remainders_are r is excess₀ resistance₀ t before

-- no layer has more than 129
pub entry_most : (r : Record) → is_layer r ≡ true → entry_count r ≤ 129
entry_most r is = omega (arith, counted r is, face_most (top r), face_most (bottom r))

-- every entry divides
pub layer_divides : (r : Record) → is_layer r ≡ true → (t : ℕ) →
    DividesAtEach t (layer_faces (record_site r) (record_state r)) (face_flows (record_site r) (record_state r) t) (face_remainders (record_site r) (record_state r) t)
unfolding face_flows face_remainders
layer_divides r is t =
    let site = site_is r is in
    divides_at_each t (layer_faces (record_site r) (record_state r))
    (λ k h.
    rw (← face_is r is [] [] k)
    (face_ranged _ _ _ _ _ (counted r is).0 site.top_held site.bottom_held (readable r is [] []) k (rw (faces_count r is [] []) h)).resistance_positive)
