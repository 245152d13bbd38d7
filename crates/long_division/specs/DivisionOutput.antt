-- The fifth program: what it writes for what it reads.
use Rattle.std.specs.Prelude.{ℕ, List}
use Rattle.std.specs.Prelude.{None, Some}
use Rattle.division.specs.JobFlows.{job_run}
use Rattle.rules.specs.Calls.{called}
use Rattle.rules.specs.Opening.{opening}
use Rattle.rules.specs.Outcome.{refusal_of}
use Rattle.rules.specs.Program.{refused_line}
use Rattle.rules.specs.Refusals.{refusal_number}
use Rattle.rules.specs.declared.answers.Call.TheVariants.{Step}
use Rattle.rules.specs.declared.record.Record.{Record}
use Rattle.words.specs.Words.{bytes_of}
use Rattle.working.specs.Working.{working_words}

-- the bytes of the longest working: of 129 faces and 128 elements
abbrev pub working_most : ℕ
working_most = 13_360

-- the bytes of a step's working on a record, or the refusal
unfoldable pub worked_output : Record → (t : ℕ) → List ℕ
unfolding called refusal_of refused_line refusal_number bytes_of working_words
worked_output r t =
    elim (refusal_of (called r (Step t)).answer) [
      | Some cause ↦ refused_line (refusal_number cause)
      | None ↦ bytes_of (working_words r t)
    ]

-- the same on the layer that a job's run leaves
unfoldable pub division_output : (job : List ℕ) (t : ℕ) → List ℕ
unfolding opening refusal_of refused_line refusal_number job_run worked_output
division_output job t =
    elim (refusal_of (opening job).answer) [
      | Some cause ↦ refused_line (refusal_number cause)
      | None ↦ worked_output (job_run job (opening job).after) t
    ]
