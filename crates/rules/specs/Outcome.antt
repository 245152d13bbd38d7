-- What a call answers on a layer, and what it does: nothing where it is refused.
use Rattle.std.specs.Prelude.{ℕ, pos, List, [], ◌∷◌}
use Rattle.std.specs.Prelude.{Option, None, Some}
use Rattle.rules.specs.Layer.{Site, State}
use Rattle.rules.specs.Refusals.{refusal_number}
use Rattle.rules.specs.Step.{step_refusal}
use Rattle.rules.specs.Load.{load_refusal}
use Rattle.rules.specs.Run.{Event, load_set, step_taken, step_count, running, run_refusal, stop_number}
use Rattle.rules.specs.declared.answers.Answer.{Answer}
use Rattle.rules.specs.declared.answers.Answer.TheVariants.{Done, Ran, Refused}
use Rattle.rules.specs.declared.answers.Call.{Call}
use Rattle.rules.specs.declared.answers.Call.TheVariants.{Load, Step, Run}
use Rattle.rules.specs.declared.answers.Refusal.{Refusal}

-- what an answer says in the paper's numbers: the refusal's, and a run's stop and steps, each 0 where there is none
pub record Numbers : Type 0 where
  pub refusal : ℕ
  pub stop : ℕ
  pub steps : ℕ

unfoldable pub answer_numbers : Answer → Numbers
unfolding refusal_number stop_number
answer_numbers Done = record { refusal = 0; stop = 0; steps = 0 }
answer_numbers (Ran stop steps) = record { refusal = 0; stop = stop_number stop; steps = steps }
answer_numbers (Refused cause) = record { refusal = refusal_number cause; stop = 0; steps = 0 }

-- the number returned with an answer: 0, or the refusal's
unfoldable pub answer_number : Answer → ℕ
unfolding answer_numbers
answer_number answer = (answer_numbers answer).refusal

unfoldable pub refusal_of : Answer → Option Refusal
refusal_of Done = None
refusal_of (Ran stop steps) = None
refusal_of (Refused cause) = Some cause

pub record Outcome : Type 0 where
  pub answer : Answer
  pub events : List Event

unfoldable pub refused : Refusal → Outcome
refused cause = record { answer = Refused cause; events = [] }

unfoldable pub ran : Site → (end budget : ℕ) → State → Outcome
unfolding running step_count
ran site end budget s =
    let run = running site end budget s in
    record { answer = Ran run.stop (step_count run.events); events = run.events }

unfoldable pub outcome : Site → State → Call → Outcome
unfolding load_refusal step_refusal run_refusal refused ran
outcome site s (Load load) =
    elim (load_refusal load) [ Some cause ↦ refused cause | None ↦ record { answer = Done; events = load_set (pos load) ∷ [] } ]
outcome site s (Step t) =
    elim (step_refusal site s t) [ Some cause ↦ refused cause | None ↦ record { answer = Done; events = step_taken t ∷ [] } ]
outcome site s (Run end budget) =
    elim (run_refusal s end budget) [ Some cause ↦ refused cause | None ↦ ran site end budget s ]
