-- The key: from a job's bytes to the result's.
use Rattle.std.specs.Prelude.{ℕ, ltb, length, true, false, List}
use Rattle.std.specs.Prelude.{None, Some}
use Rattle.numbers.specs.Arrays.{overlaid}
use Rattle.rules.specs.Calls.{ended_run}
use Rattle.rules.specs.Job.{described}
use Rattle.rules.specs.Opening.{opening}
use Rattle.rules.specs.Outcome.{refusal_of}
use Rattle.rules.specs.Result.{Returned, refused_result, result_size, result_bytes}
use Rattle.rules.specs.declared.answers.Refusal.TheVariants.{ShortBuffer}
use Rattle.rules.specs.declared.record.Record.{Record}

-- an opened record run to an end within a budget; cause 10 comes before the run
unfoldable pub run_to_result : Record → (end budget : ℕ) (buffer : List ℕ) → Returned
unfolding result_size refused_result ended_run result_bytes overlaid
run_to_result r end budget buffer =
    let run = ended_run r end budget in
    elim (ltb (length buffer) (result_size r.layer.frame.elements)) [
      | true ↦ refused_result ShortBuffer buffer
      | false ↦ record { number = 0; buffer = overlaid (result_bytes run.after run.stop run.steps) buffer }
    ]

-- what the key returns and leaves in the buffer
unfoldable pub key : (job buffer : List ℕ) → Returned
unfolding opening refusal_of refused_result described run_to_result
key job buffer =
    let opened = opening job in
    let d = described job in
    elim (refusal_of opened.answer) [
      | Some cause ↦ refused_result cause buffer
      | None ↦ run_to_result opened.after d.header.end d.header.budget buffer
    ]
