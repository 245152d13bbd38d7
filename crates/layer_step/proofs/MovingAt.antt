-- The flows of a layer and the water that they move, as arrays hold them.
use Prim.Native.Nat.{ℕ, zero, suc, ◌-◌, ◌≤◌, ◌<◌}
use native.Mathlib.Omega.{arith}
use lib.Dec.{T}
use lib.IntN.{ℤ, pos, neg_ℤ}
use lib.ListN.{length, get_or}
use lib.Signed.{le_z, ◌≤ℤ◌}
use mathlib.Core.Bool.{Bool, true, false}
use mathlib.Core.List.{List, [], ◌∷◌}
use mathlib.Core.Path.{◌≡◌, refl, sym, ap, ◌∙◌}
use Rattle.element.proofs.FlowsAt.{outward_range, above_range}
use Rattle.element.specs.Elements.{element_of, Readable, flow_above}
use Rattle.laws.specs.Bounds.{lowest_water, highest_water}
use Rattle.laws.proofs.Index.{last_at}
use Rattle.laws.specs.Faces.{HeldWithin}
use Rattle.laws.proofs.Rising.{last_abscissa}
use Rattle.layer.proofs.StepAt.{paired-tabulate, upward-flows_in, moved_in_lem, stays_in}
use Rattle.layer_step.specs.Moving.{flows_in, new_heights, stays_between, moved_by, moved_in, water_by, water_in, longest_by, water_longest, flows_longest}
use Rattle.std.specs.Prelude.{None, Some, Result, Ok, Err}
use Rattle.std.proofs.lemmas.Option.{none-some, same_Some}
use Rattle.rules.specs.declared.answers.Stop.{Stop}
use Rattle.layer_step.specs.declared.Flows.{Flows}
use Rattle.layer_step.specs.declared.Taken.{Taken}
use Rattle.numbers.specs.Arrays.{tabulate, first_places, overlaid, filled, every_index}
use Rattle.numbers.proofs.Filled.{length-tabulate, get_or-tabulate, get_or-filled}
use Rattle.numbers.proofs.Indices.{every_at, every_cong}
use Rattle.numbers.proofs.Interval.{within_neg}
use Rattle.numbers.specs.Lists.{paired, first_or, last_or}
use Rattle.numbers.proofs.Searches.{passed, both}
use Rattle.numbers.proofs.Signed.{signed}
use Rattle.rules.proofs.Falling.{first_abscissa}
use Rattle.rules.specs.Curve.{Point, falling}
use Rattle.rules.specs.Layer.{skeleton_of}
use Rattle.quantities.specs.Quantities.{step_limits, water_limits}
use Rattle.rules.specs.Step.{outward, moved, new_height, all_on_curve}
use Rattle.rules.specs.declared.answers.Stop.TheVariants.{NoStep, OffCurve}
use Rattle.quantities.specs.declared.Face.{Face}
use Rattle.water.specs.Water.{new_water, height_after, between, stays_at, Movable}

-- ---- the same for equal numbers

pub movable_as : (n : ℕ) (water : List ℕ) {lowest lowest' : ℤ} {above above' : List ℤ} → lowest' ≡ lowest → above' ≡ above →
    Movable n lowest above water → Movable n lowest' above' water
movable_as n water p q m = rw (p, q) m

pub stays_as : (n : ℕ) (water low high : List ℕ) {lowest lowest' : ℤ} {above above' : List ℤ} → lowest' ≡ lowest → above' ≡ above →
    every_index n (stays_at lowest' above' water low high) ≡ every_index n (stays_at lowest above water low high)
stays_as n water low high p q = rw (p, q) refl

pub filled_as : (n : ℕ) (water : List ℕ) {lowest lowest' : ℤ} {above above' : List ℤ} → lowest' ≡ lowest → above' ≡ above →
    filled water n (height_after lowest' above' water) ≡ filled water n (height_after lowest above water)
filled_as n water p q = rw (p, q) refl

-- ---- what a step gives, by whether it stays between its bounds

pub gives_leaves : {stays : Bool} (flows : List ℤ) → stays ≡ false → None ≡ moved_by stays flows
unfolding moved_by
gives_leaves flows e = rw e refl

pub gives_flows : {stays : Bool} (flows : List ℤ) {first last : ℤ} → stays ≡ true → first ≡ first_or (pos 0) flows →
    last ≡ last_or (pos 0) flows → Some (record { bottom = first; top = last }) ≡ moved_by stays flows
unfolding moved_by
gives_flows flows e p q = rw (e, p, q) refl

pub keeps : {stays : Bool} (n : ℕ) (water : List ℕ) (flows : List ℤ) → stays ≡ false → water ≡ water_by stays n water flows
unfolding water_by
keeps n water flows e = rw e refl

pub moves_on : {stays : Bool} (n : ℕ) (water : List ℕ) (flows : List ℤ) → stays ≡ true →
    overlaid (new_heights n water flows) water ≡ water_by stays n water flows
unfolding water_by
moves_on n water flows e = rw e refl

-- and what it gave tells whether it stays
pub leaves_off : (stays : Bool) (flows : List ℤ) → None ≡ moved_by stays flows → stays ≡ false
unfolding moved_by
leaves_off true flows e = absurd (none-some _ e)
leaves_off false flows e = refl

pub flows_on : (stays : Bool) (flows : List ℤ) (moved : Flows) → Some moved ≡ moved_by stays flows →
    (stays ≡ true) × (moved.bottom ≡ first_or (pos 0) flows) × (moved.top ≡ last_or (pos 0) flows)
unfolding moved_by
flows_on true flows moved e = (refl, ap (λ (f : Flows). f.bottom) (same_Some _ _ e), ap (λ (f : Flows). f.top) (same_Some _ _ e))
flows_on false flows moved e = absurd (none-some _ (sym e))

-- ---- what the longest step gives

module _ (top bottom : Face) (n : ℕ) (low high water : List ℕ) (excess : List ℤ) (resistance : List ℕ) (above : List ℤ) where
  abbrev flowing : ℕ → List ℤ
  flowing t = flows_in top bottom t n excess resistance

  abbrev Gives : (longest : ℕ) → Result Taken Stop → (water' : List ℕ) (above' : List ℤ) → Type 0
  Gives longest gave water' above' =
      (gave ≡ longest_by longest (moved_in n low high water (flowing longest))) ×
      (water' ≡ water_longest longest n low high water (flowing longest)) × (above' ≡ flows_longest longest n top excess resistance above)

  pub none_taken : {longest : ℕ} → longest ≡ 0 → Gives longest (Err NoStep) water above
  unfolding longest_by water_longest flows_longest
  none_taken e = rw e (refl, refl, refl)

  module _ {water' : List ℕ} {above' : List ℤ} where
    off_after : (t : ℕ) → 0 < t → None ≡ moved_in n low high water (flowing t) → water' ≡ water_in n low high water (flowing t) →
        above' ≡ filled above n (flow_above top t n excess resistance) → Gives t (Err OffCurve) water' above'
    unfolding longest_by water_longest flows_longest
    off_after zero some gave moved filled = absurd (omega arith)
    off_after (suc t) some gave moved filled = (ap (longest_by (suc t)) gave, moved, filled)

    pub off_curve : {longest : ℕ} (t : ℕ) → longest ≡ t → 0 < t → None ≡ moved_in n low high water (flowing t) →
        water' ≡ water_in n low high water (flowing t) → above' ≡ filled above n (flow_above top t n excess resistance) →
        Gives longest (Err OffCurve) water' above'
    off_curve t e some gave moved filled = rw e (off_after t some gave moved filled)

    on_after : (t : ℕ) → 0 < t → {flows : Flows} → Some flows ≡ moved_in n low high water (flowing t) →
        water' ≡ water_in n low high water (flowing t) → above' ≡ filled above n (flow_above top t n excess resistance) →
        Gives t (Ok (record { seconds = t; flows = flows })) water' above'
    unfolding longest_by water_longest flows_longest
    on_after zero some gave moved filled = absurd (omega arith)
    on_after (suc t) some gave moved filled = (ap (longest_by (suc t)) gave, moved, filled)

    pub is_on_curve : {longest : ℕ} (t : ℕ) → longest ≡ t → 0 < t → {flows : Flows} → Some flows ≡ moved_in n low high water (flowing t) →
        water' ≡ water_in n low high water (flowing t) → above' ≡ filled above n (flow_above top t n excess resistance) →
        Gives longest (Ok (record { seconds = t; flows = flows })) water' above'
    is_on_curve t e some gave moved filled = rw e (on_after t some gave moved filled)

-- what stays between bounds is not negative
pub stays_positive : (n : ℕ) (lowest : ℤ) (above : List ℤ) (water low high : List ℕ) →
    every_index n (stays_at lowest above water low high) ≡ true → (j : ℕ) → j < n → pos 0 ≤ℤ new_water lowest above water j
stays_positive n lowest above water low high e j h =
    let new = new_water lowest above water j in
    let t = (both (le_z (pos (get_or low j 0)) new) (le_z new (pos (get_or high j 0))) (every_at n (stays_at lowest above water low high) (passed e) j h)).0 in
    let reaches : pos (get_or low j 0) ≤ℤ new = record { le = t } in omega signed

-- ---- flows

-- bounds of water within which an element is on a curve
pub record Bounded (curve : List Point) (n : ℕ) (solids low high : List ℕ) : Type 0 where
  pub falls : T (falling curve)
  pub two : 2 ≤ length curve
  pub solid : (j : ℕ) → j < n → 0 < get_or solids j 0
  pub lows : (j : ℕ) → j < n → get_or low j 0 ≡ lowest_water (get_or solids j 0) (last_abscissa curve)
  pub highs : (j : ℕ) → j < n → get_or high j 0 ≡ highest_water (get_or solids j 0) (first_abscissa curve)

-- an entry after another is one place earlier without it
earlier : {A : Type 0} (a : A) (more : List A) (k : ℕ) (d : A) → 0 < k → get_or (a ∷ more) k d ≡ get_or more (k - 1) d
earlier a more zero d h = absurd (omega arith)
earlier a more (suc k) d h = ap (λ (i : ℕ). get_or more i d) (omega arith)

module _ (n : ℕ) (some_element : 0 < n) (top bottom : Face) (t : ℕ) (excess : List ℤ) (resistance : List ℕ) (above₀ : List ℤ) where
  abbrev pub lowest : ℤ
  lowest = neg_ℤ (outward bottom t (element_of (get_or excess 0 (pos 0)) (get_or resistance 0 0) 0))

  abbrev pub above : List ℤ
  above = filled above₀ n (flow_above top t n excess resistance)

  abbrev flows : List ℤ
  flows = flows_in top bottom t n excess resistance

  -- all flows, from the arrays
  flows_are : flows ≡ lowest ∷ tabulate n (flow_above top t n excess resistance)
  flows_are = upward-flows_in n excess resistance [] top bottom t some_element

  above_at : (j : ℕ) → j < n → get_or above j (pos 0) ≡ flow_above top t n excess resistance j
  above_at j h = get_or-filled above₀ n (flow_above top t n excess resistance) j (pos 0) h

  pub first_flow : first_or (pos 0) flows ≡ lowest
  unfolding first_or
  first_flow = ap (first_or (pos 0)) flows_are

  pub last_flow : last_or (pos 0) flows ≡ get_or above (n - 1) (pos 0)
  unfolding last_or
  last_flow =
      let more = tabulate n (flow_above top t n excess resistance) in
      ap (last_or (pos 0)) flows_are ∙ last_at lowest more (pos 0) ∙
      ap (λ (k : ℕ). get_or (lowest ∷ more) k (pos 0)) (length-tabulate n (flow_above top t n excess resistance)) ∙
      earlier lowest more n (pos 0) some_element ∙ get_or-tabulate n (flow_above top t n excess resistance) (n - 1) (pos 0) (omega arith) ∙
      sym (above_at (n - 1) (omega arith))

  module _ (water : List ℕ) where
    -- the new water is that of the definitions
    new_is : moved flows (first_places n water) ≡ tabulate n (new_water lowest above water)
    new_is =
        ap (λ (l : List ℤ). moved l (first_places n water)) flows_are ∙
        moved_in_lem n lowest above water (flow_above top t n excess resistance) above_at

    pub water_is : filled water n (height_after lowest above water) ≡ overlaid (new_heights n water flows) water
    unfolding filled first_places
    water_is =
        ap (λ (l : List ℕ). overlaid l water)
        (sym (ap (paired new_height (first_places n water)) new_is ∙ paired-tabulate new_height n (λ j. get_or water j 0) (new_water lowest above water)))

    -- the test by the arrays is the test by the flows
    pub stays_now : (low high : List ℕ) → every_index n (stays_at lowest above water low high) ≡ stays_between n low high water flows
    unfolding stays_between
    stays_now low high =
        every_cong n (stays_at lowest above water low high)
        (λ j. between (get_or low j 0) (get_or high j 0) (get_or (moved flows (first_places n water)) j (pos 0)))
        (λ j h.
        ap (between (get_or low j 0) (get_or high j 0))
        (sym (ap (λ (l : List ℤ). get_or l j (pos 0)) new_is ∙ get_or-tabulate n (new_water lowest above water) j (pos 0) h)))

    -- the bounds tell whether every element stays on the curve
    pub stays_is : (low high : List ℕ) (curve : List Point) (solids : List ℕ) → Bounded curve n solids low high →
        stays_between n low high water flows ≡ all_on_curve (skeleton_of curve) (first_places n solids) (moved flows (first_places n water))
    stays_is low high curve solids b =
        sym (stays_now low high) ∙
        stays_in curve b.falls b.two n solids low high b.solid b.lows b.highs lowest above water ∙
        ap (λ (l : List ℤ). all_on_curve (skeleton_of curve) (first_places n solids) l) (sym new_is)

    -- no flow is out of range
    pub movable : HeldWithin top → HeldWithin bottom → t ≤ step_limits.most → Readable n excess resistance →
        ((j : ℕ) → j < n → get_or water j 0 ≤ water_limits.most) → Movable n lowest above water
    movable held held' short readable few = record {
      lowest_within = within_neg (outward_range bottom t _ held' (readable.excess_within 0 some_element) short);
      above_within = λ j h. rw (above_at j h) (above_range top held t short n excess resistance readable.excess_within j h);
      water_most = few;
    }
