-- The causes 1 to 4, which are tested before a job is read.
use Rattle.std.specs.Prelude.{List, ℕ}
use Rattle.std.specs.Prelude.{None, Some}
use Rattle.rules.specs.Job.{described, framing_causes}
use Rattle.rules.specs.Refusals.{first_cause}
use Rattle.rules.specs.declared.answers.Refusal.{Refusal}
use Rattle.rules.specs.declared.job.Header.{Header}
use Rattle.std.specs.Prelude.{Result, Ok, Err}

-- the first of them that holds, or the header
unfoldable pub framing : List ℕ → Result Header Refusal
unfolding first_cause framing_causes described
framing job = elim (first_cause (framing_causes job)) [ None ↦ Ok (described job).header | Some cause ↦ Err cause ]
