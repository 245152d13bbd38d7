-- Flows telescope: what the water loses is what crosses the outer faces.
use Prim.Native.Nat.{ℕ, ◌≤◌}
use native.Mathlib.Omega.{arith}
use lib.Dec.{T}
use lib.IntN.{ℤ, pos, neg_ℤ, ◌+ℤ◌, ◌-ℤ◌, +ℤ-neg_ℤ_cancel}
use lib.ListN.{length}
use mathlib.Core.Bool.{not}
use mathlib.Core.List.{List, [], ◌∷◌}
use mathlib.Core.Path.{◌≡◌, refl, sym, ap₂, ◌∙◌}
use Rattle.numbers.specs.Lists.{paired, first_or, last_or}
use Rattle.numbers.proofs.Searches.{both}
use Rattle.numbers.proofs.Signed.{signed, add_parts, sub_parts}
use Rattle.numbers.specs.Sums.{sum}
use Rattle.numbers.proofs.Sums.{total}
use Rattle.rules.specs.Layer.{Site, State, Skeleton, skeleton, Element, read_elements}
use Rattle.rules.specs.Step.{outward, upward_flows, flows_above, moved, new_height, stepped, on_curve, all_on_curve, leaves_curve}
use Rattle.quantities.specs.declared.Face.{Face}
use Rattle.laws.proofs.OnCurve.{on_curve_parts, stays_on}
use Rattle.laws.proofs.Lengths.{elements_length, above_length, flows_moved_length}

-- a flow that leaves one element and enters the next
telescope : (w below above rest last : ℤ) → (w -ℤ above +ℤ below) +ℤ (rest +ℤ above -ℤ last) ≡ w +ℤ rest +ℤ below -ℤ last
telescope w below above rest last =
    omega (
      signed,
      add_parts (w -ℤ above +ℤ below) (rest +ℤ above -ℤ last),
      add_parts (w -ℤ above) below,
      sub_parts w above,
      sub_parts (rest +ℤ above) last,
      add_parts rest above,
      sub_parts (w +ℤ rest +ℤ below) last,
      add_parts (w +ℤ rest) below,
      add_parts w rest,
    )

-- what the water gains the outflows lose
carried : (water enters leaves top bottom : ℤ) →
    (water +ℤ enters -ℤ leaves) +ℤ (top +ℤ leaves) +ℤ (bottom -ℤ enters) ≡ water +ℤ top +ℤ bottom
carried water enters leaves top bottom =
    omega (
      signed,
      add_parts ((water +ℤ enters -ℤ leaves) +ℤ (top +ℤ leaves)) (bottom -ℤ enters),
      add_parts (water +ℤ enters -ℤ leaves) (top +ℤ leaves),
      sub_parts (water +ℤ enters) leaves,
      add_parts water enters,
      add_parts top leaves,
      sub_parts bottom enters,
      add_parts (water +ℤ top) bottom,
      add_parts water top,
    )

-- the new water adds up to the old, with what enters below and without what leaves above
pub moved_total : (below : ℤ) (flows : List ℤ) (water : List ℕ) → length flows ≡ length water →
    total (moved (below ∷ flows) water) ≡ pos (sum water) +ℤ below -ℤ last_or below flows
unfolding moved total sum last_or
moved_total below [] [] h = sym (+ℤ-neg_ℤ_cancel (pos 0) below)
moved_total below [] (w ∷ ws) h = absurd (omega arith)
moved_total below (above ∷ rest) [] h = absurd (omega arith)
moved_total below (above ∷ rest) (w ∷ ws) h =
    rw (moved_total above rest ws (omega arith)) (telescope (pos w) below above (pos (sum ws)) (last_or above rest))

-- water on the curve adds up to itself, as no height of it is negative
pub on_curve_total : (soil : Skeleton) (Ss ws : List ℕ) (zs : List ℤ) → length zs ≤ length Ss → length zs ≡ length ws →
    T (all_on_curve soil Ss zs) → pos (sum (paired new_height ws zs)) ≡ total zs
unfolding all_on_curve sum total paired
on_curve_total soil Ss [] [] h k t = refl
on_curve_total soil Ss (w ∷ ws) [] h k t = absurd (omega arith)
on_curve_total soil Ss [] (z ∷ zs) h k t = absurd (omega arith)
on_curve_total soil [] (w ∷ ws) (z ∷ zs) h k t = absurd (omega arith)
on_curve_total soil (S ∷ Ss) (w ∷ ws) (z ∷ zs) h k t =
    let (here, more) = both (on_curve soil S z) (all_on_curve soil Ss zs) t in
    let (e, on) = on_curve_parts soil S w z here in
    let ih = on_curve_total soil Ss ws zs (omega arith) (omega arith) more in
    ap₂ ◌+ℤ◌ e ih

-- the flows of a layer move its water by what enters below and leaves above
pub flows_total : (top bottom : Face) (t : ℕ) (es : List Element) (water : List ℕ) → length es ≡ length water →
    total (moved (upward_flows top bottom t es) water) ≡
    pos (sum water) +ℤ first_or (pos 0) (upward_flows top bottom t es) -ℤ last_or (pos 0) (upward_flows top bottom t es)
unfolding upward_flows moved total sum first_or last_or
flows_total top bottom t [] [] h = refl
flows_total top bottom t [] (w ∷ ws) h = absurd (omega arith)
flows_total top bottom t (e ∷ rest) water h =
    moved_total (neg_ℤ (outward bottom t e)) (flows_above top t (e ∷ rest)) water (above_length top t (e ∷ rest) ∙ h)

module _ (site : Site) (t : ℕ) (s : State) (size : length s.water ≡ length site.solids) (stays : T (not (leaves_curve site s t))) where
  abbrev flows : List ℤ
  flows = upward_flows site.top site.bottom t (read_elements site s)

  -- a step that stays on the curve changes the water by what enters below and leaves above
  pub water_change : pos (sum (stepped site t s).water) ≡ pos (sum s.water) +ℤ first_or (pos 0) flows -ℤ last_or (pos 0) flows
  unfolding stepped
  water_change =
      let n = elements_length site s size in
      let m = flows_moved_length site.top site.bottom t (read_elements site s) s.water n in
      on_curve_total (skeleton site) site.solids s.water (moved flows s.water) (omega arith) m (stays_on site s t stays) ∙
      flows_total site.top site.bottom t (read_elements site s) s.water n

  -- the water left and both outflows add up to the same before and after
  pub balance : pos (sum (stepped site t s).water) +ℤ (stepped site t s).top_outflow +ℤ (stepped site t s).bottom_outflow ≡
      pos (sum s.water) +ℤ s.top_outflow +ℤ s.bottom_outflow
  unfolding stepped
  balance =
      rw water_change
      (carried (pos (sum s.water)) (first_or (pos 0) flows) (last_or (pos 0) flows) s.top_outflow s.bottom_outflow)
