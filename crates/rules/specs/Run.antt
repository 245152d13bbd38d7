-- Run: the loop to an end time with a budget. What it does is told as its events, a load set or a step taken.
use Rattle.std.specs.Prelude.{ℕ, zero, suc, ◌-◌, min, ltb, eqb, ℤ, true, false, not, ◌||◌, List, [], ◌∷◌}
use Rattle.std.specs.Prelude.{Option}
use Rattle.numbers.specs.Lists.{greatest}
use Rattle.quantities.specs.Quantities.{within, clock_limits, step_limits, budget_limits}
use Rattle.rules.specs.Layer.{Site, State}
use Rattle.rules.specs.Refusals.{◌if◌, first_cause}
use Rattle.rules.specs.Step.{stepped, too_long, leaves_curve}
use Rattle.rules.specs.Load.{load_at, next_time, with_load}
use Rattle.rules.specs.declared.answers.Refusal.{Refusal}
use Rattle.rules.specs.declared.answers.Refusal.TheVariants.{RunOutside}
use Rattle.rules.specs.declared.answers.Stop.{Stop}
use Rattle.rules.specs.declared.answers.Stop.TheVariants.{AtEnd, BudgetUsed, NoStep, OffCurve}

-- the paper's number of each stop
unfoldable pub stop_number : Stop → ℕ
stop_number AtEnd = 0
stop_number BudgetUsed = 1
stop_number NoStep = 2
stop_number OffCurve = 3

-- what changes a state
pub data Event : Type 0 where
  load_set : ℤ → Event
  step_taken : (t : ℕ) → Event

-- the state after an event, and after a list of them
unfoldable pub after_event : Site → Event → State → State
unfolding with_load stepped
after_event site (load_set load) s = with_load load s
after_event site (step_taken t) s = stepped site t s

unfoldable pub after_events : Site → List Event → State → State
unfolding after_event
after_events site [] s = s
after_events site (e ∷ rest) s = after_events site rest (after_event site e s)

-- the number of steps among events
unfoldable pub step_count : List Event → ℕ
step_count [] = 0
step_count (load_set load ∷ rest) = step_count rest
step_count (step_taken t ∷ rest) = suc (step_count rest)

-- the most that a step of a run may be: a step's limit, up to the end and up to the next table time
unfoldable pub longest_reach : Site → (end now : ℕ) → ℕ
unfolding next_time
longest_reach site end now = min step_limits.most (min end (next_time site.load_table now end) - now)

-- the longest step within reach that isn't too long, 0 if there is none
unfoldable pub longest_step : Site → (end : ℕ) → State → ℕ
unfolding greatest longest_reach too_long
longest_step site end s = greatest (longest_reach site end s.clock) (λ t. not (too_long site s t))

-- what the loop finds once the table's load is set: a stop, or a step to take
pub data Turn : Type 0 where
  stops : Stop → Turn
  goes : (t : ℕ) → Turn

unfoldable pub turn : Site → State → (longest : ℕ) → Turn
unfolding leaves_curve
turn site s zero = stops NoStep
turn site s (suc t) = elim (leaves_curve site s (suc t)) [ true ↦ stops OffCurve | false ↦ goes (suc t) ]

-- a run's stop and events
pub record RunOutcome : Type 0 where
  pub stop : Stop
  pub events : List Event

-- stop 0 comes first, whatever else the loop would find
unfoldable pub unless_at_end : (now end : ℕ) → RunOutcome → RunOutcome
unless_at_end now end found = elim (eqb now end) [ true ↦ record { stop = AtEnd; events = [] } | false ↦ found ]

unfoldable pub running : Site → (end budget : ℕ) → State → RunOutcome
unfolding unless_at_end with_load load_at turn longest_step stepped
running site end zero s = unless_at_end s.clock end (record { stop = BudgetUsed; events = [] })
running site end (suc budget) s =
    let load = load_at site.load_table s.clock in
    let loaded = with_load load s in
    unless_at_end s.clock end (
    elim (turn site loaded (longest_step site end loaded)) [
      | stops stop ↦ record { stop = stop; events = load_set load ∷ [] }
      | goes t ↦
          let rest = running site end budget (stepped site t loaded) in
          record { stop = rest.stop; events = load_set load ∷ step_taken t ∷ rest.events }
    ]
    )

-- why a run is refused, if it is: 16
unfoldable pub run_refusal : State → (end budget : ℕ) → Option Refusal
unfolding first_cause within
run_refusal s end budget =
    first_cause
    ((RunOutside if (ltb end s.clock || not (within clock_limits end) || not (within budget_limits budget))) ∷ [])
