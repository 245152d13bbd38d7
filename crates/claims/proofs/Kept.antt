-- What every state keeps that accepted events lead to.
use Prim.Native.Nat.{ℕ, ◌*◌, ◌≤◌, ◌<◌}
use native.Mathlib.Omega.{arith}
use lib.Dec.{T, lit≤}
use lib.IntN.{ℤ, pos, ◌+ℤ◌}
use lib.ListN.{length}
use mathlib.Core.List.{List, [], ◌∷◌, map}
use mathlib.Core.Path.{◌≡◌, sym, subst, ◌∙◌}
use Rattle.claims.proofs.Accepted.{LoadKept, StepAccepted, Accepted, AllAccepted}
use Rattle.laws.proofs.Balance.{balance}
use Rattle.laws.specs.Every.{Every}
use Rattle.laws.proofs.Excess.{excesses-within}
use Rattle.laws.proofs.Lengths.{stepped-length}
use Rattle.laws.proofs.OnCurve.{on_curve_parts, stays_on}
use Rattle.laws.proofs.Outflow.{outflow_within}
use Rattle.laws.specs.Faces.{Holds}
use Rattle.laws.proofs.Steep.{steep_positive}
use Rattle.numbers.specs.Interval.{Within}
use Rattle.numbers.proofs.Interval.{within_pos, within_le, within-add, within-sub}
use Rattle.numbers.proofs.Searches.{both, joined}
use Rattle.numbers.specs.Sums.{sum}
use Rattle.rules.specs.Curve.{falling, compressibility_sound}
use Rattle.rules.specs.Layer.{Site, State, Skeleton, skeleton, read_elements, bottom_pressure}
use Rattle.rules.specs.Load.{table_sound, with_load}
use Rattle.quantities.specs.Quantities.{clock_limits, solids_limits, gravity_limits, element_limits, outflow_rate, most_head_pressure}
use Rattle.rules.specs.Run.{Event, load_set, step_taken, after_event, after_events}
use Rattle.numbers.specs.Lists.{paired}
use Rattle.rules.specs.Step.{site_steepness, upward_flows, moved, new_height, stepped, on_curve, all_on_curve}
use Rattle.quantities.specs.declared.Face.{Face}
use Rattle.quantities.specs.declared.Face.TheVariants.{Closed, Drained}

-- ---- what faces hold

-- a face that holds some pressure holds what follows of it
pub holds_map : {P Q : ℤ → Type 0} → ((p : ℤ) → P p → Q p) → (face : Face) → Holds P face → Holds Q face
unfolding Holds
holds_map f Closed h = tt
holds_map f (Drained held) h = f held.0 h

-- P of a site
abbrev pub held_below : Site → ℤ
held_below site = (bottom_pressure site.top_level site.bottom_level).0

-- what a sound site gives to the laws of a step
pub record SoundSite (site : Site) : Type 0 where
  pub compressibility : T (compressibility_sound site.compressibility)
  pub falls : T (falling site.compressibility)
  pub two : 2 ≤ length site.compressibility
  pub table : T (table_sound site.load_table)
  pub solid : Every (λ S. 0 < S) site.solids
  pub small : Every (λ S. S ≤ solids_limits.most) site.solids
  pub few : length site.solids ≤ element_limits.most
  pub light : site.gravity ≤ gravity_limits.most
  pub top_holds : Holds (λ p. p ≡ pos 0) site.top
  pub bottom_holds : Holds (λ p. p ≡ held_below site) site.bottom
  pub held-within : Within (held_below site) most_head_pressure

-- what a state keeps, on a site and since a starting water
pub record Kept (site : Site) (start : ℕ) (s : State) : Type 0 where
  pub size : length s.water ≡ length site.solids
  pub is_on_curve : T (all_on_curve (skeleton site) site.solids (map pos s.water))
  pub load : LoadKept s.load
  pub clock : s.clock ≤ clock_limits.most
  pub top_bound : Within s.top_outflow (outflow_rate * s.clock)
  pub bottom_bound : Within s.bottom_outflow (outflow_rate * s.clock)
  pub balanced : pos start ≡ pos (sum s.water) +ℤ s.top_outflow +ℤ s.bottom_outflow

-- heights on the curve are the new heights, as none is negative
heights_on : (soil : Skeleton) (Ss ws : List ℕ) (zs : List ℤ) → T (all_on_curve soil Ss zs) →
    T (all_on_curve soil Ss (map pos (paired new_height ws zs)))
unfolding all_on_curve on_curve paired
heights_on soil [] ws zs t = tt
heights_on soil (S ∷ Ss) [] zs t = tt
heights_on soil (S ∷ Ss) (w ∷ ws) [] t = tt
heights_on soil (S ∷ Ss) (w ∷ ws) (z ∷ zs) t =
    let (here, more) = both (on_curve soil S z) (all_on_curve soil Ss zs) t in
    joined (on_curve soil S (pos (new_height w z))) (all_on_curve soil Ss (map pos (paired new_height ws zs))) (on_curve_parts soil S w z here).1
    (heights_on soil Ss ws zs more)

module _ (site : Site) (sound : SoundSite site) (start : ℕ) where
  -- a load within its limits keeps it, and so does an accepted step
  load_keeps : (load : ℤ) (s : State) → LoadKept load → Kept site start s → Kept site start (with_load load s)
  unfolding with_load
  load_keeps load s h k = record {
    size = k.size;
    is_on_curve = k.is_on_curve;
    load = h;
    clock = k.clock;
    top_bound = k.top_bound;
    bottom_bound = k.bottom_bound;
    balanced = k.balanced;
  }

  step_keeps : (t : ℕ) (s : State) → StepAccepted site s t → Kept site start s → Kept site start (stepped site t s)
  unfolding stepped site_steepness
  step_keeps t s a k =
      let (enters, leaves) =
      outflow_within site s t a.least (steep_positive site.compressibility sound.falls sound.two) sound.solid
      (holds_map (λ p e. subst (λ (z : ℤ). Within z most_head_pressure) (sym e) (within_le (within_pos 0) (lit≤ tt))) site.top sound.top_holds)
      (holds_map (λ p e. subst (λ (z : ℤ). Within z most_head_pressure) (sym e) sound.held-within) site.bottom sound.bottom_holds)
      (excesses-within site sound.compressibility s k.load sound.light sound.small sound.few) a.short
      in
      record {
        size = stepped-length site t s k.size ∙ k.size;
        is_on_curve =
            heights_on (skeleton site) site.solids s.water (moved (upward_flows site.top site.bottom t (read_elements site s)) s.water)
            (stays_on site s t a.stays);
        load = k.load;
        clock = a.clock_most;
        top_bound = within_le (within-add k.top_bound leaves) (omega arith);
        bottom_bound = within_le (within-sub k.bottom_bound enters) (omega arith);
        balanced = k.balanced ∙ sym (balance site t s k.size a.stays);
      }

  -- so all accepted events do
  pub event_keeps : (e : Event) (s : State) → Accepted site s e → Kept site start s → Kept site start (after_event site e s)
  unfolding Accepted after_event
  event_keeps (load_set load) s a k = load_keeps load s a k
  event_keeps (step_taken t) s a k = step_keeps t s a k

  pub events_keep : (es : List Event) (s : State) → AllAccepted site s es → Kept site start s → Kept site start (after_events site es s)
  unfolding AllAccepted after_events
  events_keep [] s a k = k
  events_keep (e ∷ rest) s a k = events_keep rest (after_event site e s) a.1 (event_keeps e s a.0 k)
