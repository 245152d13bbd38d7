-- A run, pass by pass.
use Prim.Native.Nat.{ℕ, zero, suc, ◌+◌, ◌-◌, ◌≤◌, ◌<◌}
use native.Mathlib.Omega.{arith}
use lib.Dec.{eqb}
use mathlib.Core.Bool.{true, false}
use mathlib.Core.List.{[], ◌∷◌}
use mathlib.Core.Path.{◌≡◌, refl, ap, ◌∙◌}
use Rattle.rules.specs.Layer.{Site, State}
use Rattle.rules.specs.Load.{load_at, with_load}
use Rattle.rules.specs.Run.{load_set, step_taken, after_event, after_events, step_count, longest_step, stops, goes, turn, RunOutcome, unless_at_end, running}
use Rattle.rules.specs.Step.{stepped}
use Rattle.rules.specs.declared.answers.Stop.{Stop}
use Rattle.rules.specs.declared.answers.Stop.TheVariants.{AtEnd, BudgetUsed}

-- the state with the table's load
abbrev pub loaded : Site → State → State
loaded site s = with_load (load_at site.load_table s.clock) s

-- what a run gives: its stop, its number of steps, the state after it
pub record Given : Type 0 where
  pub stop : Stop
  pub steps : ℕ
  pub after : State

-- from a state that so many steps led to, by the outcome there
abbrev given_by : Site → (steps : ℕ) → State → RunOutcome → Given
given_by site steps s run =
    record { stop = run.stop; steps = steps + step_count run.events; after = after_events site run.events s }

unfoldable pub given : Site → (end budget steps : ℕ) → State → Given
unfolding running step_count after_events
given site end budget steps s = given_by site steps s (running site end (budget - steps) s)

module _ (site : Site) (end budget steps : ℕ) (s : State) where
  -- at the end nothing is done, whatever the budget
  at_end : (left : ℕ) → eqb s.clock end ≡ true → running site end left s ≡ record { stop = AtEnd; events = [] }
  unfolding running unless_at_end
  at_end zero e = rw (e, unless_at_end)
  at_end (suc left) e = rw (e, unless_at_end)

  by_outcome : (run : RunOutcome) → running site end (budget - steps) s ≡ run → given site end budget steps s ≡ given_by site steps s run
  unfolding given
  by_outcome run e = ap (given_by site steps s) e

  none_more : steps + 0 ≡ steps
  none_more = omega arith

  pub given_at_end : eqb s.clock end ≡ true → given site end budget steps s ≡ record { stop = AtEnd; steps = steps; after = s }
  unfolding step_count after_events
  given_at_end e = by_outcome (record { stop = AtEnd; events = [] }) (at_end (budget - steps) e) ∙ rw none_more refl

  module _ (before : eqb s.clock end ≡ false) where
    -- nor where the budget is used
    pub given_budget_used : budget ≤ steps → given site end budget steps s ≡ record { stop = BudgetUsed; steps = steps; after = s }
    unfolding running unless_at_end step_count after_events
    given_budget_used h =
        let none_left : budget - steps ≡ 0 = omega arith in
        by_outcome (record { stop = BudgetUsed; events = [] }) (rw (none_left, before, unless_at_end)) ∙ rw none_more refl

    module _ (h : steps < budget) where
      one_less : budget - steps ≡ suc (budget - (steps + 1))
      one_less = omega arith

      -- a pass that stops sets the table's load
      pub given_stop : (stop : Stop) → turn site (loaded site s) (longest_step site end (loaded site s)) ≡ stops stop →
          given site end budget steps s ≡ record { stop = stop; steps = steps; after = loaded site s }
      unfolding running unless_at_end step_count after_events after_event
      given_stop stop found =
          by_outcome (record { stop = stop; events = load_set (load_at site.load_table s.clock) ∷ [] }) (rw (one_less, before, unless_at_end, found)) ∙
          rw none_more refl

      -- a pass that takes a step goes on from the state after it
      pub given_step : (t : ℕ) → turn site (loaded site s) (longest_step site end (loaded site s)) ≡ goes t →
          given site end budget steps s ≡ given site end budget (steps + 1) (stepped site t (loaded site s))
      unfolding running unless_at_end step_count after_events after_event given
      given_step t found =
          let rest = running site end (budget - (steps + 1)) (stepped site t (loaded site s)) in
          let one_more : steps + suc (step_count rest.events) ≡ steps + 1 + step_count rest.events = omega arith in
          by_outcome (record { stop = rest.stop; events = load_set (load_at site.load_table s.clock) ∷ step_taken t ∷ rest.events }) (rw (one_less, before, unless_at_end, found)) ∙
          rw one_more refl
