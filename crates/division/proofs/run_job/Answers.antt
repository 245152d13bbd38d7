use mathlib.Core.List.{List}
use mathlib.Core.Path.{◌≡◌, ap}
use Prim.Native.Nat.{ℕ}
use Rattle.division.specs.JobFlows.{job_run}
use Rattle.rules.specs.Calls.{called}
use Rattle.rules.specs.Job.{field, described}
use Rattle.rules.specs.declared.answers.Answered.{Answered}
use Rattle.rules.specs.declared.answers.Call.TheVariants.{Run}
use Rattle.rules.specs.declared.record.Record.{Record}
use Rattle.division.proofs.run_job.Goals as goal

-- the run by its numbers
run-as : {end budget : ℕ} {a : Answered} (job : List ℕ) (r : Record) → end ≡ field 8 32 job → budget ≡ field 8 40 job → a ≡ called r (Run end budget) →
    a.after ≡ job_run job r
unfolding job_run described
run-as job r end_is budget-is is = ap (λ (a : Answered). a.after) (rw (end_is, budget-is) at is)

pub returns : goal.returns
returns c =
    run-as c.args.job.now c.args.r c.word_at-end.ensures c.word_at-budget.ensures c.take_run-ran.ensures.value
