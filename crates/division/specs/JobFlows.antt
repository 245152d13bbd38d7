-- Flows with what the division left, of the layer that a job's run leaves: what is returned, and left in both buffers.
use Rattle.std.specs.Prelude.{ℕ, ltb, ℤ, pos, neg_ℤ, length, Bool, cond, ◌||◌, List}
use Rattle.std.specs.Prelude.{None, Some}
use Rattle.record_flows.specs.Dividing.{entry_count, dividing}
use Rattle.std.specs.Prelude.{Result, Ok, Err}
use Rattle.rules.specs.Calls.{called}
use Rattle.rules.specs.Job.{described}
use Rattle.rules.specs.Opening.{opening}
use Rattle.rules.specs.Outcome.{refusal_of}
use Rattle.rules.specs.Refusals.{refusal_number}
use Rattle.rules.specs.declared.answers.Call.TheVariants.{Run}
use Rattle.rules.specs.declared.answers.Refusal.{Refusal}
use Rattle.rules.specs.declared.answers.Refusal.TheVariants.{ShortBuffer}
use Rattle.rules.specs.declared.record.Record.{Record}

-- the record after the run of a job that opened it: to the job's end, within its budget
unfoldable pub job_run : (job : List ℕ) → Record → Record
unfolding called described
job_run job r = (called r (Run (described job).header.end (described job).header.budget)).after

pub record JobFlows : Type 0 where
  pub number : ℤ
  pub flows : List ℤ
  pub remainders : List ℤ

-- a cause is told by its number below 0, since any number from 0 on may be one of entries
unfoldable pub minus_number : Refusal → ℤ
unfolding refusal_number
minus_number cause = neg_ℤ (pos (refusal_number cause))

unfoldable pub divided_number : Result ℕ Refusal → ℤ
unfolding minus_number
divided_number (Ok n) = pos n
divided_number (Err cause) = minus_number cause

abbrev pub refused_flows : Refusal → (flows remainders : List ℤ) → JobFlows
refused_flows cause flows remainders = record { number = minus_number cause; flows = flows; remainders = remainders }

-- the call on a record
unfoldable pub call_flows : Record → (t : ℕ) (flows remainders : List ℤ) → JobFlows
unfolding dividing divided_number
call_flows r t flows remainders =
    let d = dividing r t flows remainders in
    record { number = divided_number d.answer; flows = d.flows; remainders = d.remainders }

-- some buffer has no room for an entry of each inner or drained face
unfoldable pub no_room : Record → (flows remainders : List ℤ) → Bool
no_room r flows remainders = ltb (length flows) (entry_count r) || ltb (length remainders) (entry_count r)

-- an opened record: cause 10 comes before the run
unfoldable pub run_to_flows : (job : List ℕ) → Record → (t : ℕ) (flows remainders : List ℤ) → JobFlows
unfolding no_room call_flows job_run minus_number
run_to_flows job r t flows remainders =
    cond (no_room r flows remainders) (refused_flows ShortBuffer flows remainders) (call_flows (job_run job r) t flows remainders)

-- those of a job
unfoldable pub job_flows : (job : List ℕ) (t : ℕ) (flows remainders : List ℤ) → JobFlows
unfolding opening refusal_of run_to_flows minus_number
job_flows job t flows remainders =
    elim (refusal_of (opening job).answer) [
      | Some cause ↦ refused_flows cause flows remainders
      | None ↦ run_to_flows job (opening job).after t flows remainders
    ]
