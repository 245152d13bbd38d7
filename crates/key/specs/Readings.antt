-- Readings against the layer that a job's run leaves: what is returned and left in the buffer of answers.
use Rattle.std.specs.Prelude.{ℕ, ◌*◌, ltb, length, true, false, List}
use Rattle.std.specs.Prelude.{None, Some}
use Rattle.field_data.specs.Words.{reading_count, answers_on}
use Rattle.numbers.specs.Arrays.{overlaid}
use Rattle.rules.specs.Calls.{ended_run}
use Rattle.rules.specs.Job.{described}
use Rattle.rules.specs.Opening.{opening}
use Rattle.rules.specs.Outcome.{refusal_of}
use Rattle.rules.specs.Result.{Returned, refused_result}
use Rattle.rules.specs.declared.answers.Refusal.TheVariants.{ShortBuffer}
use Rattle.rules.specs.declared.record.Record.{Record}

-- an opened record run to an end within a budget, and readings answered on what the run leaves; cause 10 comes before the run
unfoldable pub run_to_readings : Record → (end budget : ℕ) (readings buffer : List ℕ) → Returned
unfolding refused_result ended_run answers_on overlaid
run_to_readings r end budget readings buffer =
    elim (ltb (length buffer) (5 * reading_count readings)) [
      | true ↦ refused_result ShortBuffer buffer
      | false ↦ record { number = 0; buffer = overlaid (answers_on (ended_run r end budget).after readings) buffer }
    ]

-- those of a job, which runs to its own end within its own budget
unfoldable pub job_readings : (job readings buffer : List ℕ) → Returned
unfolding opening refusal_of refused_result described run_to_readings
job_readings job readings buffer =
    let opened = opening job in
    let d = described job in
    elim (refusal_of opened.answer) [
      | Some cause ↦ refused_result cause buffer
      | None ↦ run_to_readings opened.after d.header.end d.header.budget readings buffer
    ]
