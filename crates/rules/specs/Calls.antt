-- Calls on a record: what each answers and leaves.
use Rattle.std.specs.Prelude.{ℕ, true, false, List, [], ◌∷◌}
use Rattle.rules.specs.Outcome.{outcome, Numbers, answer_numbers}
use Rattle.rules.specs.Record.{record_site, record_state, with_events, is_layer}
use Rattle.rules.specs.Run.{step_count, running}
use Rattle.rules.specs.declared.answers.Answer.{Answer}
use Rattle.rules.specs.declared.answers.Answer.TheVariants.{Refused}
use Rattle.rules.specs.declared.answers.Answered.{Answered}
use Rattle.rules.specs.declared.answers.Call.{Call}
use Rattle.rules.specs.declared.answers.Refusal.TheVariants.{NoLayer}
use Rattle.rules.specs.declared.answers.Stop.{Stop}
use Rattle.rules.specs.declared.record.Record.{Record}

-- a load, step or run on any record: cause 11 first
unfoldable pub called : Record → Call → Answered
unfolding is_layer outcome record_site record_state with_events
called r call =
    elim (is_layer r) [
      | false ↦ record { answer = Refused NoLayer; after = r }
      | true ↦
          let o = outcome (record_site r) (record_state r) call in
          record { answer = o.answer; after = with_events r o.events }
    ]

-- its answer in the paper's numbers
unfoldable pub called_numbers : Record → Call → Numbers
unfolding called answer_numbers
called_numbers r call = answer_numbers (called r call).answer

-- a run on a record, within its limits or not: its stop, its number of steps, and the record after it
pub record Ending : Type 0 where
  pub stop : Stop
  pub steps : ℕ
  pub after : Record

unfoldable pub ended_run : Record → (end budget : ℕ) → Ending
unfolding running record_site record_state step_count with_events
ended_run r end budget =
    let run = running (record_site r) end budget (record_state r) in
    record { stop = run.stop; steps = step_count run.events; after = with_events r run.events }

-- a list of calls, each given the record as the one before left it: every answer, and the last record
pub record Replay : Type 0 where
  pub answers : List Answer
  pub after : Record

unfoldable pub replayed : Record → List Call → Replay
unfolding called
replayed r [] = record { answers = []; after = r }
replayed r (call ∷ rest) =
    let a = called r call in
    let more = replayed a.after rest in
    record { answers = a.answer ∷ more.answers; after = more.after }
