-- A step of a layer as arrays hold it is the step of the definitions.
use Prim.Native.Nat.{ℕ, zero, suc, ◌≤◌, ◌<◌}
use native.Mathlib.Omega.{arith}
use lib.Dec.{T}
use lib.IntN.{ℤ, pos, neg_ℤ}
use lib.ListN.{length, get_or, drop}
use mathlib.Core.List.{List, [], ◌∷◌, map}
use mathlib.Core.Path.{◌≡◌, refl, sym, ap, ◌∙◌}
use Rattle.laws.specs.Bounds.{lowest_water, highest_water}
use Rattle.laws.proofs.Bounds.{on_curve_bounds}
use Rattle.laws.proofs.Rising.{last_abscissa}
use Rattle.laws.proofs.Index.{element_at, moved_at}
use Rattle.laws.proofs.Lengths.{elements_length, above_length, moved_length}
use Rattle.element.specs.Elements.{element_of, element_in, elements_in, flow_above}
use Rattle.water.specs.Water.{new_water, stays_at}
use Rattle.numbers.specs.Arrays.{tabulate, first_places, every_index}
use Rattle.numbers.proofs.Filled.{length-tabulate, get_or-tabulate, drop-tabulate, tabulated, tabulate_cong}
use Rattle.numbers.specs.Lists.{all, paired}
use Rattle.rules.specs.Curve.{Point, falling}
use Rattle.rules.proofs.Falling.{first_abscissa}
use Rattle.rules.specs.Layer as layer
use Rattle.rules.specs.Layer.{Site, State, Skeleton, skeleton, skeleton_of, Element, burdens, read_elements, excess_pressure}
use Rattle.rules.specs.Step.{Contact, contact, inner_resistance, outer_resistance, upward, outward, flows_above, upward_flows, moved, outer_contacts, contacts_above, contacts, on_curve, all_on_curve}
use Rattle.quantities.specs.declared.Face.{Face}
use Rattle.quantities.specs.declared.Face.TheVariants.{Closed, Drained}
use Rattle.element.proofs.FlowsAt.{outward_same}
use Rattle.weights.proofs.WeightsAt.{burden_at_lem}

-- ---- lists

pub map-tabulate : {A B : Type 0} (h : A → B) (n : ℕ) (f : ℕ → A) → map h (tabulate n f) ≡ tabulate n (λ k. h (f k))
unfolding tabulate
map-tabulate h zero f = refl
map-tabulate h (suc n) f = ap (λ l. h (f zero) ∷ l) (map-tabulate h n (λ k. f (suc k)))

pub paired-tabulate : {A B C : Type 0} (h : A → B → C) (n : ℕ) (f : ℕ → A) (g : ℕ → B) →
    paired h (tabulate n f) (tabulate n g) ≡ tabulate n (λ k. h (f k) (g k))
unfolding paired tabulate
paired-tabulate h zero f g = refl
paired-tabulate h (suc n) f g = ap (λ l. h (f zero) (g zero) ∷ l) (paired-tabulate h n (λ k. f (suc k)) (λ k. g (suc k)))

-- ---- flows do not look at sensitivities

insensitive : Element → Element
insensitive e = element_of e.excess e.resistance 0

above_insensitive : (top : Face) (t : ℕ) (es : List Element) → flows_above top t (map insensitive es) ≡ flows_above top t es
unfolding insensitive flows_above upward inner_resistance
above_insensitive top t [] = refl
above_insensitive top t (e ∷ []) = ap (λ z. z ∷ []) (outward_same top t e 0)
above_insensitive top t (e ∷ f ∷ rest) = ap (λ l. upward t e f ∷ l) (above_insensitive top t (f ∷ rest))

-- ---- contacts do not look at pressures

still : Element → Element
still e = element_of (pos 0) e.resistance e.sensitivity

outer_still : (face : Face) (e : Element) → outer_contacts face (still e) ≡ outer_contacts face e
unfolding still outer_contacts outer_resistance
outer_still Closed e = refl
outer_still (Drained held) e = refl

contacts_above-still : (top : Face) (es : List Element) → contacts_above top (map still es) ≡ contacts_above top es
unfolding still contacts_above inner_resistance
contacts_above-still top [] = refl
contacts_above-still top (e ∷ []) = outer_still top e
contacts_above-still top (e ∷ f ∷ rest) =
    ap (λ (l : List Contact). contact e (inner_resistance e f) ∷ contact f (inner_resistance e f) ∷ l) (contacts_above-still top (f ∷ rest))

contacts-still : (top bottom : Face) (es : List Element) → contacts top bottom (map still es) ≡ contacts top bottom es
unfolding contacts
contacts-still top bottom [] = refl
contacts-still top bottom (e ∷ rest) = rw (outer_still bottom e, contacts_above-still top (e ∷ rest)) refl

-- ---- the elements of a layer

module _ (n : ℕ) (excess : List ℤ) (resistance sensitivity : List ℕ) where
  abbrev es : List Element
  es = elements_in n excess resistance sensitivity

  -- the flows above the elements are those of the arrays
  pub flows_in_lem : (top : Face) (t : ℕ) → flows_above top t es ≡ tabulate n (flow_above top t n excess resistance)
  unfolding elements_in flow_above insensitive
  flows_in_lem top t =
      let bare = elements_in n excess resistance [] in
      let same : map insensitive es ≡ bare = map-tabulate insensitive n (element_in excess resistance sensitivity) in
      sym (above_insensitive top t es) ∙ ap (flows_above top t) same ∙
      tabulated n (flow_above top t n excess resistance) (flows_above top t bare) (pos 0)
      (above_length top t bare ∙ length-tabulate n (element_in excess resistance [])) (λ k h. refl)

  -- all flows, that of the bottom first
  pub upward-flows_in : (top bottom : Face) (t : ℕ) → 0 < n →
      upward_flows top bottom t es ≡
      neg_ℤ (outward bottom t (element_of (get_or excess 0 (pos 0)) (get_or resistance 0 0) 0)) ∷ tabulate n (flow_above top t n excess resistance)
  unfolding elements_in upward_flows
  upward-flows_in top bottom t h =
      let f = element_in excess resistance sensitivity in
      let split : es ≡ f 0 ∷ drop 1 es = drop-tabulate n f 0 h in
      ap (upward_flows top bottom t) split ∙
      ap (λ (z : ℤ). neg_ℤ z ∷ flows_above top t (f 0 ∷ drop 1 es)) (sym (outward_same bottom t (f 0) 0)) ∙
      ap (λ (l : List ℤ). neg_ℤ (outward bottom t (element_of (get_or excess 0 (pos 0)) (get_or resistance 0 0) 0)) ∷ l)
      (ap (flows_above top t) (sym split) ∙ flows_in_lem top t)

  -- the contacts of the arrays are those of the elements
  pub contacts_in : (top bottom : Face) → contacts top bottom (elements_in n [] resistance sensitivity) ≡ contacts top bottom es
  unfolding elements_in still
  contacts_in top bottom =
      ap (contacts top bottom) (sym (map-tabulate still n (element_in excess resistance sensitivity))) ∙ contacts-still top bottom es

-- ---- the new water

module _ (n : ℕ) (lowest : ℤ) (above : List ℤ) (water : List ℕ) (flow : ℕ → ℤ) (same : (j : ℕ) → j < n → get_or above j (pos 0) ≡ flow j) where
  entering_same : (j : ℕ) → j < n → get_or (lowest ∷ tabulate n flow) j (pos 0) ≡ get_or (lowest ∷ above) j (pos 0)
  entering_same zero h = refl
  entering_same (suc j) h = get_or-tabulate n flow j (pos 0) (omega arith) ∙ sym (same j (omega arith))

  -- the new water of the arrays is that of the definitions
  pub moved_in_lem : moved (lowest ∷ tabulate n flow) (first_places n water) ≡ tabulate n (new_water lowest above water)
  unfolding first_places
  moved_in_lem =
      let ws = first_places n water in
      let flows = length-tabulate n flow in
      let waters = length-tabulate n (λ i. get_or water i 0) in
      tabulated n (new_water lowest above water) (moved (lowest ∷ tabulate n flow) ws) (pos 0)
      (moved_length lowest (tabulate n flow) ws (flows ∙ sym waters) ∙ waters)
      (λ j h.
      moved_at lowest (tabulate n flow) ws j (pos 0) (rw flows h) (rw waters h) ∙
      rw (
        get_or-tabulate n (λ i. get_or water i 0) j 0 h,
        get_or-tabulate n flow j (pos 0) h,
        ← same j h,
        entering_same j h,
      ) refl)

-- ---- the curve

-- all heights of a table are on the curve just where each is
pub on_curve_in : (soil : Skeleton) (n : ℕ) (solids : List ℕ) (W : ℕ → ℤ) →
    all_on_curve soil (first_places n solids) (tabulate n W) ≡ every_index n (λ j. on_curve soil (get_or solids j 0) (W j))
unfolding all_on_curve first_places every_index
on_curve_in soil n solids W = ap (all (λ on. on)) (paired-tabulate (on_curve soil) n (λ i. get_or solids i 0) W)

module _ (curve : List Point) (falls : T (falling curve)) (two : 2 ≤ length curve) (n : ℕ) (solids low high : List ℕ)
    (solid : (j : ℕ) → j < n → 0 < get_or solids j 0)
    (lows : (j : ℕ) → j < n → get_or low j 0 ≡ lowest_water (get_or solids j 0) (last_abscissa curve))
    (highs : (j : ℕ) → j < n → get_or high j 0 ≡ highest_water (get_or solids j 0) (first_abscissa curve)) where
  -- new water between the bounds is on the curve
  pub stays_in : (lowest : ℤ) (above : List ℤ) (water : List ℕ) →
      every_index n (stays_at lowest above water low high) ≡
      all_on_curve (skeleton_of curve) (first_places n solids) (tabulate n (new_water lowest above water))
  unfolding every_index
  stays_in lowest above water =
      ap (all (λ on. on)) (tabulate_cong n (stays_at lowest above water low high) (λ j. on_curve (skeleton_of curve) (get_or solids j 0) (new_water lowest above water j))
      (λ j h. rw (lows j h, highs j h) (sym (on_curve_bounds curve falls two (get_or solids j 0) (solid j h) (new_water lowest above water j))))) ∙
      sym (on_curve_in (skeleton_of curve) n solids (new_water lowest above water))

-- ---- what a step reads

module _ (site : Site) (s : State) (n : ℕ) (solids_many : length site.solids ≡ n) (water_many : length s.water ≡ n)
    (excess : List ℤ) (resistance sensitivity : List ℕ) where
  abbrev B : ℕ → ℕ
  B j = get_or (burdens site.gravity site.solids) j 0

  abbrev S : ℕ → ℕ
  S j = get_or site.solids j 0

  abbrev W : ℕ → ℕ
  W j = get_or s.water j 0

  -- the elements of the arrays are those of the definitions
  pub elements_in_lem : ((j : ℕ) → j < n → get_or excess j (pos 0) ≡ excess_pressure (skeleton site) s.load (B j) (S j) (W j)) →
      ((j : ℕ) → j < n → get_or resistance j 0 ≡ layer.resistance site.conductivity (S j) (W j)) →
      ((j : ℕ) → j < n → get_or sensitivity j 0 ≡ layer.sensitivity (S j)) →
      read_elements site s ≡ elements_in n excess resistance sensitivity
  unfolding elements_in layer.element
  elements_in_lem p r c =
      tabulated n (element_in excess resistance sensitivity) (read_elements site s) (element_of (pos 0) 0 0)
      (elements_length site s (water_many ∙ sym solids_many) ∙ water_many)
      (λ j h.
      element_at site s j (element_of (pos 0) 0 0) (rw solids_many h) (rw water_many h) ∙
      rw (p j h, r j h, c j h, burden_at_lem site.gravity site.solids j 0 (rw solids_many h)) refl)
