-- One pass of a run's loop: what it is given, what it found, and where it leads.
use Prim.Native.Nat.{ℕ, zero, suc, ◌+◌, ◌≤◌, ◌<◌}
use native.Mathlib.Omega.{arith}
use lib.Dec.{T, eqb, ltb, ltb→lt}
use lib.IntN.{ℤ, pos}
use lib.ListN.{length}
use mathlib.Core.Bool.{true, false, not}
use mathlib.Core.List.{List, [], ◌∷◌}
use mathlib.Core.Path.{◌≡◌, refl, sym, ap, subst, ◌∙◌}
use Rattle.claims.proofs.Accepted.{Accepted, StepAccepted}
use Rattle.claims.proofs.Events.{turn_goes, longest-within}
use Rattle.claims.proofs.Fixed.{own_places}
use Rattle.claims.proofs.Kept.{Kept, event_keeps}
use Rattle.claims.proofs.TableLoads.{sound_load}
use Rattle.laws.proofs.Longest.{longest-accepted}
use Rattle.lent.specs.Progress as progress
use Rattle.lent.proofs.Standing.{counted}
use Rattle.layer_step.specs.declared.Taken.{Taken}
use Rattle.std.specs.Prelude.{Ok, Err}
use Rattle.numbers.specs.Arrays.{first_places, overlaid, filled}
use Rattle.numbers.proofs.Filled.{length-overlaid, length-filled, overlaid-overlaid, first_length}
use Rattle.numbers.specs.Lists.{first_or, last_or}
use Rattle.numbers.proofs.Searches.{by_test}
use Rattle.rules.specs.Calls.{Ending, ended_run}
use Rattle.rules.specs.Curve.{Point}
use Rattle.rules.specs.Layer.{Site, State, read_elements}
use Rattle.rules.specs.Load.{load_at, next_time, with_load}
use Rattle.quantities.specs.Quantities.{element_limits}
use Rattle.rules.specs.Record.{record_site, state_of, record_state, progress_of, with_parts, with_state, is_layer}
use Rattle.rules.specs.Run.{load_set, step_taken, after_event, longest_step, Turn, stops, goes, turn}
use Rattle.rules.specs.Step.{upward_flows, too_long, stepped}
use Rattle.rules.specs.declared.answers.Ended.{Ended}
use Rattle.rules.specs.declared.answers.Stop.{Stop}
use Rattle.rules.specs.declared.answers.Stop.TheVariants.{AtEnd, BudgetUsed}
use Rattle.rules.specs.declared.record.Progress.{Progress}
use Rattle.rules.specs.declared.record.Record.{Record}
use Rattle.pass.specs.Passing as passing
use Rattle.pass.specs.Passing.{under_table, passed_by, turned, flows_turned}
use Rattle.pass.specs.declared.Stopped.{Stopped}
use Rattle.pass.proofs.Given.{loaded, given, given_at_end, given_budget_used, given_stop, given_step}
use Rattle.pass.proofs.Reached.{Reached, sound, ends, stands_with}
use Rattle.pass.proofs.Turned.{gives}

-- the next table time is not before now
pub next_reaches : (table : List Point) (now otherwise : ℕ) → now ≤ otherwise → now ≤ next_time table now otherwise
unfolding next_time
next_reaches [] now otherwise h = h
next_reaches (a ∷ rest) now otherwise h =
    let ih = next_reaches rest now otherwise h in
    by_test (ltb now a.abscissa) (λ b. now ≤ elim b as (λ _. ℕ) [ true ↦ a.abscissa | false ↦ next_time rest now otherwise ])
    (λ t. let l = ltb→lt now a.abscissa t in omega arith) (λ _. ih)

-- a run ends with what is told of it
abbrev pub ending : Record → (water : List ℕ) → Ended → Ending
ending r water e = record { stop = e.stop; steps = e.steps; after = with_parts r water e.progress }

-- the flows of a pass fill the same array
pub flows_long : (r : Record) (t : ℕ) (above : List ℤ) → r.layer.frame.elements ≤ element_limits.most → length above ≡ 128 →
    length (flows_turned r t above) ≡ 128
unfolding flows_turned
flows_long r zero above few many = many
flows_long r (suc t) above few many = length-filled above r.layer.frame.elements _ (omega arith) ∙ many

-- an array filled is as long as it was
pub as_long : {A : Type 0} (array : List A) {array' : List A} (n : ℕ) (f : ℕ → A) → array' ≡ filled array n f → n ≤ 128 → length array ≡ 128 →
    length array' ≡ 128
as_long {A = A} array n f e few long = ap (λ (l : List A). length l) e ∙ length-filled array n f (rw long few) ∙ long

-- ---- what a turn found, by what the longest step gave

module _ (r : Record) where
  found_stop : (stop : Stop) (x : Turn) → Err stop ≡ gives r x → x ≡ stops stop
  unfolding gives
  found_stop stop (stops other) e = cc
  found_stop stop (goes t) e = let z : ◌≡◌ {A = ℕ} 0 1 = cc in absurd (omega arith)

  found_step : (taken : Taken) (x : Turn) → Ok taken ≡ gives r x → let t = taken.seconds in
      (x ≡ goes t) × (taken.flows.bottom ≡ first_or (pos 0) (upward_flows r.layer.frame.top r.layer.frame.bottom t (read_elements (record_site r) (record_state r)))) ×
      (taken.flows.top ≡ last_or (pos 0) (upward_flows r.layer.frame.top r.layer.frame.bottom t (read_elements (record_site r) (record_state r))))
  unfolding gives
  found_step taken (stops other) e = let z : ◌≡◌ {A = ℕ} 0 1 = cc in absurd (omega arith)
  found_step taken (goes u) e =
      let flows = upward_flows r.layer.frame.top r.layer.frame.bottom u (read_elements (record_site r) (record_state r)) in
      let same : taken ≡ record { seconds = u; flows = record { bottom = first_or (pos 0) flows; top = last_or (pos 0) flows } } = cc in
      rw same (refl, refl, refl)

-- ---- what a pass found, by what it gave

record Went (after : Progress) (x : Turn) (progress : Progress) : Type 0 where
  t : ℕ
  goes_is : x ≡ goes t
  after_is : after ≡ progress

pass_stop : (stopped : Stopped) (x : Turn) (p : Progress) → Err stopped ≡ passed_by x p → (x ≡ stops stopped.stop) × (stopped.progress ≡ p)
unfolding passed_by
pass_stop stopped (stops other) p e =
    let same : stopped ≡ record { stop = other; progress = p } = cc in rw same (refl, refl)
pass_stop stopped (goes t) p e = let z : ◌≡◌ {A = ℕ} 0 1 = cc in absurd (omega arith)

pass_step : (after : Progress) (x : Turn) (p : Progress) → Ok after ≡ passed_by x p → Went after x p
unfolding passed_by
pass_step after (stops other) p e = let z : ◌≡◌ {A = ℕ} 0 1 = cc in absurd (omega arith)
pass_step after (goes t) p e = record { t = t; goes_is = refl; after_is = cc }

-- the progress after a turn with a step
progress_goes : (r : Record) {x : Turn} (t : ℕ) → x ≡ goes t → (turned r x).layer.progress ≡ progress_of (stepped (record_site r) t (record_state r))
unfolding turned with_state
progress_goes r t e = rw e refl

-- ---- a pass of a layer's run

module _ {r : Record} {end budget : ℕ} {water : List ℕ} {now : Progress} {steps : ℕ} (at : Reached r end budget water now steps) where
  abbrev n : ℕ
  n = r.layer.frame.elements

  abbrev site : Site
  site = record_site r

  -- the state at the head of the loop, and with the table's load
  abbrev head : State
  head = state_of n water now

  abbrev pub next : State
  next = loaded site head

  abbrev found : Turn
  found = turn site next (longest_step site end next)

  -- the record there
  abbrev pub here : Record
  here = with_parts r water now

  -- ---- it is not begun

  pub at_end : eqb now.clock.0 end ≡ true →
      ended_run r end budget ≡ record { stop = AtEnd; steps = steps; after = with_parts r water now }
  at_end e = ends r at.is at.whole end budget (at.from_here ∙ given_at_end site end budget steps head e) at.rest

  module _ (before : eqb now.clock.0 end ≡ false) where
    pub budget_used : budget ≤ steps → ended_run r end budget ≡ record { stop = BudgetUsed; steps = steps; after = with_parts r water now }
    budget_used h = ends r at.is at.whole end budget (at.from_here ∙ given_budget_used site end budget steps head before h) at.rest

  -- ---- under the table's load

  abbrev under : Record
  under = under_table here

  kept_next : Kept site r.layer.frame.starting_water next
  unfolding Accepted after_event
  kept_next =
      event_keeps site (sound r at.is) r.layer.frame.starting_water (load_set (load_at site.load_table now.clock.0)) head
      (sound_load site.load_table (sound r at.is).table now.clock.0) at.kept

  pub under_stands : is_layer under ≡ true
  unfolding record_site with_load
  under_stands = stands_with r at.is water under.layer.progress kept_next

  -- ---- what it gives, by what the longest step gave

  -- a stop, with the table's load
  pub gives_stop : {p : Progress} → p ≡ under.layer.progress → (stop : Stop) → Err stop ≡ gives under (passing.found here end) →
      Err (record { stop = stop; progress = p }) ≡ passed_by (passing.found here end) (passing.passed here end).layer.progress
  unfolding passed_by turned
  gives_stop p-is stop gave = rw (found_stop under stop (passing.found here end) gave, p-is) refl

  module _ (taken : Taken) (gave : Ok taken ≡ gives under (passing.found here end)) where
    abbrev t : ℕ
    t = taken.seconds

    pub went : passing.found here end ≡ goes t
    went = (found_step under taken (passing.found here end) gave).0

    -- the progress after a step
    pub later_is : {p : Progress} → p ≡ under.layer.progress → progress.later p t taken.flows.bottom taken.flows.top ≡ progress_of (stepped (record_site under) t (record_state under))
    unfolding stepped record_site record_state
    later_is p-is =
        let (goes_is, first_is, last-is) = found_step under taken (passing.found here end) gave in
        rw (p-is, first_is, last-is) refl

    pub gives_step : {p : Progress} → p ≡ under.layer.progress →
        Ok (progress.later p t taken.flows.bottom taken.flows.top) ≡ passed_by (passing.found here end) (passing.passed here end).layer.progress
    unfolding passed_by turned with_state
    gives_step p-is = rw (went, later_is p-is) refl

  -- ---- where it leads

  module _ (before : eqb now.clock.0 end ≡ false) (left : steps < budget) {water' : List ℕ} (moved : water' ≡ (turned under found).layer.water) where
    -- a stop sets the table's load, and nothing moves
    stop_ends : (stop : Stop) → found ≡ stops stop →
        ended_run r end budget ≡ record { stop = stop; steps = steps; after = with_parts r water' (progress_of next) }
    unfolding turned with_load
    stop_ends stop stopped =
        let still : water' ≡ water = moved ∙ rw stopped refl in
        rw still (ends r at.is at.whole end budget (at.from_here ∙ given_stop site end budget steps head before left stop stopped) at.rest)

    module _ (t : ℕ) (steps_t : found ≡ goes t) where
      abbrev after : State
      after = stepped site t next

      -- the clock does not pass the end
      clock_in : now.clock.0 + t ≤ end
      unfolding with_load
      clock_in =
          let (is-longest, least, stays) = turn_goes site (sound r at.is).table next (longest_step site end next) t steps_t in
          omega (arith, longest-within site (sound r at.is).table end next at.early)

      kept_after : Kept site r.layer.frame.starting_water after
      unfolding Accepted after_event
      kept_after =
          let (is-longest, least, stays) = turn_goes site (sound r at.is).table next (longest_step site end next) t steps_t in
          let accepted : StepAccepted site next t = record {
            least = least;
            clock_most = omega (arith, clock_in, at.late);
            short = subst (λ (u : ℕ). T (not (too_long site next u))) is-longest (longest-accepted site end next).1;
            stays = stays;
          } in
          event_keeps site (sound r at.is) r.layer.frame.starting_water (step_taken t) next accepted kept_next

      size : length after.water ≡ n
      unfolding record_site
      size = kept_after.size ∙ first_length n r.layer.solids

      water_is : water' ≡ overlaid after.water water
      unfolding turned with_state record_site record_state with_load
      water_is = moved ∙ rw steps_t refl

      front_is : first_places n water' ≡ after.water
      front_is = ap (first_places n) water_is ∙ own_places after.water water n size

      -- the state after the step, as array and progress hold it
      state_is : state_of n water' (progress_of after) ≡ after
      state_is i = record {
        water = front_is i;
        load = after.load;
        clock = after.clock;
        top_outflow = after.top_outflow;
        bottom_outflow = after.bottom_outflow;
      }

      early_after : (progress_of after).clock.0 ≤ end
      unfolding stepped with_load
      early_after = clock_in

      -- the loop goes on
      pub goes_on : Reached r end budget water' (progress_of after) (steps + 1)
      goes_on = record {
        is = at.is;
        late = at.late;
        whole = at.whole;
        few = omega arith;
        early = early_after;
        kept = rw state_is kept_after;
        from_here = at.from_here ∙ given_step site end budget steps head before left t steps_t ∙ ap (given site end budget (steps + 1)) (sym state_is);
        rest =
            water_is ∙ ap (overlaid after.water) at.rest ∙
            overlaid-overlaid after.water (first_places n water) r.layer.water (omega (arith, first_length n water, size)) ∙
            ap (λ (l : List ℕ). overlaid l r.layer.water) (sym front_is);
        long = ap (λ (l : List ℕ). length l) water_is ∙ length-overlaid after.water water (omega (arith, size, (counted r at.is).1, at.long)) ∙ at.long;
      }

  -- ---- by what a pass gave

  module _ (before : eqb now.clock.0 end ≡ false) (left : steps < budget) {water' : List ℕ} (moved : water' ≡ (passing.passed here end).layer.water) where
    pub pass_stops : (out : Stopped) → Err out ≡ passed_by (passing.found here end) (passing.passed here end).layer.progress →
        ended_run r end budget ≡ record { stop = out.stop; steps = steps; after = with_parts r water' out.progress }
    unfolding record_site record_state with_load turned
    pass_stops out gave =
        let (stopped, p-is) = pass_stop out (passing.found here end) _ gave in
        let still : (passing.passed here end).layer.progress ≡ progress_of next = rw stopped refl in
        rw (p-is ∙ still) (stop_ends before left moved out.stop stopped)

    pub pass_goes : (after : Progress) → Ok after ≡ passed_by (passing.found here end) (passing.passed here end).layer.progress →
        Reached r end budget water' after (steps + 1)
    unfolding record_site record_state with_load
    pass_goes after gave =
        let w = pass_step after (passing.found here end) _ gave in
        rw (w.after_is ∙ progress_goes under w.t w.goes_is) (goes_on before left moved w.t w.goes_is)
