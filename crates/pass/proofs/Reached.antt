-- What the loop of a run keeps, and what it ends with.
use Prim.Native.Nat.{ℕ, ◌+◌, ◌-◌, ◌≤◌}
use native.Mathlib.Omega.{arith}
use lib.ListN.{length}
use mathlib.Core.Bool.{true}
use mathlib.Core.List.{List, [], ◌∷◌}
use mathlib.Core.Path.{◌≡◌, refl, sym, ap, ◌∙◌}
use mir.Syntax.{w64}
use mir.Val.{SFits}
use Rattle.claims.proofs.Fixed.{Fixed, sized_dry, sound_site, is_a_layer}
use Rattle.claims.proofs.Kept.{SoundSite, Kept}
use Rattle.laws.proofs.SiteFacts.{site_parts}
use Rattle.lent.proofs.CallLaws.{own_front}
use Rattle.lent.proofs.Standing.{state_is, counted}
use Rattle.numbers.specs.Arrays.{first_places, overlaid}
use Rattle.numbers.proofs.Filled.{first_length}
use Rattle.numbers.proofs.Interval.{within_fits, within_le}
use Rattle.numbers.proofs.Searches.{passed, both, is_true}
use Rattle.quantities.proofs.Limits.{inside}
use Rattle.rules.specs.Calls.{Ending, ended_run}
use Rattle.quantities.specs.Quantities.{clock_limits, starting_water_limits, most_outflow}
use Rattle.rules.specs.Record.{record_site, state_of, record_state, with_parts, with_state, with_events, site_sound, state_sound, is_layer}
use Rattle.rules.specs.Run.{Event, after_events, step_count, running}
use Rattle.rules.specs.declared.answers.Stop.{Stop}
use Rattle.rules.specs.declared.record.Progress.{Progress}
use Rattle.rules.specs.declared.record.Record.{Record}
use Rattle.pass.proofs.Given.{Given, given}

-- ---- a layer

module _ (r : Record) (is : is_layer r ≡ true) where
  -- what no call changes
  pub fixed : Fixed r
  unfolding is_layer
  fixed =
      let p = site_parts r (is_true (site_sound r) (both (site_sound r) (state_sound r) (passed is)).0) in
      record {
        header = p.header;
        sizes = is_true _ (sized_dry (record_site r) (record_state r).water (passed p.sizes));
        compressibility = p.compressibility;
        conductivity = p.conductivity;
        table = p.table;
        top = p.top;
        bottom = p.bottom;
        starting = inside starting_water_limits r.layer.frame.starting_water (omega arith) (state_is r is).starting_most;
      }

  pub sound : SoundSite (record_site r)
  sound = sound_site r fixed

  -- a layer's state is kept
  pub kept : Kept (record_site r) r.layer.frame.starting_water (record_state r)
  unfolding record_site record_state
  kept =
      let s = state_is r is in
      record {
        size = first_length r.layer.frame.elements r.layer.water ∙ sym (first_length r.layer.frame.elements r.layer.solids);
        is_on_curve = passed s.is_on_curve;
        load = s.load_between;
        clock = s.clock_most;
        top_bound = s.top_bound;
        bottom_bound = s.bottom_bound;
        balanced = s.balance;
      }

-- ---- in the loop

-- the run of a layer to an end within its limits has come to some water and some progress by so many steps, and gives what it
-- gives from there
pub record Reached (r : Record) (end budget : ℕ) (water : List ℕ) (progress : Progress) (steps : ℕ) : Type 0 where
  pub is : is_layer r ≡ true
  pub late : end ≤ clock_limits.most
  pub whole : length r.layer.water ≡ 128
  pub few : steps ≤ budget
  pub early : progress.clock.0 ≤ end
  pub kept : Kept (record_site r) r.layer.frame.starting_water (state_of r.layer.frame.elements water progress)
  pub from_here :
      given (record_site r) end budget 0 (record_state r) ≡
      given (record_site r) end budget steps (state_of r.layer.frame.elements water progress)
  pub rest : water ≡ overlaid (first_places r.layer.frame.elements water) r.layer.water
  pub long : length water ≡ 128

-- the outflows are in range
pub outflows_fit : {r : Record} {end budget : ℕ} {water : List ℕ} {progress : Progress} {steps : ℕ} → Reached r end budget water progress steps →
    SFits w64 progress.top_outflow.0 × SFits w64 progress.bottom_outflow.0
outflows_fit at =
    let m = at.kept.clock in (
      within_fits {n = most_outflow} tt (within_le at.kept.top_bound (omega arith)),
      within_fits {n = most_outflow} tt (within_le at.kept.bottom_bound (omega arith)),
    )

-- a layer with another state that is kept
pub stands_with : (r : Record) → is_layer r ≡ true → (water : List ℕ) (progress : Progress) →
    Kept (record_site r) r.layer.frame.starting_water (state_of r.layer.frame.elements water progress) →
    is_layer (with_parts r water progress) ≡ true
unfolding record_site record_state
stands_with r is water progress kept-state =
    let f = fixed r is in
    is_a_layer (with_parts r water progress)
    (record {
      header = f.header;
      sizes = f.sizes;
      compressibility = f.compressibility;
      conductivity = f.conductivity;
      table = f.table;
      top = f.top;
      bottom = f.bottom;
      starting = f.starting;
    })
    kept-state

-- the layer that it has come to
pub stands : {r : Record} {end budget : ℕ} {water : List ℕ} {progress : Progress} {steps : ℕ} → Reached r end budget water progress steps →
    is_layer (with_parts r water progress) ≡ true
stands {r} {water = water} {progress = progress} at = stands_with r at.is water progress at.kept

module _ (r : Record) (is : is_layer r ≡ true) (whole : length r.layer.water ≡ 128) where
  own : r.layer.water ≡ overlaid (first_places r.layer.frame.elements r.layer.water) r.layer.water
  own = own_front r.layer.frame.elements r.layer.water (omega (arith, (counted r is).1))

  pub begins : {end budget : ℕ} → end ≤ clock_limits.most → r.layer.progress.clock.0 ≤ end →
      Reached r end budget r.layer.water r.layer.progress 0
  unfolding record_state
  begins late early = record {
    is = is;
    late = late;
    whole = whole;
    few = omega arith;
    early = early;
    kept = kept r is;
    from_here = refl;
    rest = own;
    long = whole;
  }

  -- the record after events has the state after them
  with_events_lem : (es : List Event) → with_events r es ≡ with_state r (after_events (record_site r) es (record_state r))
  unfolding with_events with_state record_state after_events
  with_events_lem [] = rw (← own) refl
  with_events_lem (e ∷ rest) = refl

  abbrev ending : Given → Ending
  ending g = record { stop = g.stop; steps = g.steps; after = with_state r g.after }

  -- a run ends with the water and the progress of the state that it gives
  pub ends : (end budget : ℕ) {stop : Stop} {steps : ℕ} {water : List ℕ} {progress : Progress} →
      given (record_site r) end budget 0 (record_state r) ≡
      record { stop = stop; steps = steps; after = state_of r.layer.frame.elements water progress } →
      water ≡ overlaid (first_places r.layer.frame.elements water) r.layer.water →
      ended_run r end budget ≡ record { stop = stop; steps = steps; after = with_parts r water progress }
  unfolding ended_run given with_state
  ends end budget {stop} {steps} {water} {progress} gives rest =
      let all : budget - 0 ≡ budget = omega arith in
      let run = running (record_site r) end budget (record_state r) in
      let none : 0 + step_count run.events ≡ step_count run.events = omega arith in
      let given_is : ended_run r end budget ≡ ending (given (record_site r) end budget 0 (record_state r)) =
      rw (all, none, with_events_lem run.events) refl in
      given_is ∙ ap ending gives ∙
      ap (λ (w : List ℕ). record { stop = stop; steps = steps; after = with_parts r w progress }) (sym rest)
