use mathlib.Core.Path.{sym, ap, ◌∙◌}
use Rattle.division.proofs.FlowLaws.{never_ran}
use Rattle.division.specs.JobFlows.{job_run}
use Rattle.long_division.proofs.Writing.{line_written, opened_output, refused_output}
use Rattle.long_division.specs.DivisionOutput.{worked_output, division_output}
use Rattle.rules.specs.declared.answers.Answered.{Answered}
use Rattle.rules.specs.declared.record.Record.{Record}
use Rattle.long_division.proofs.answer.Goals as goal

-- Opening promises the whole answer; the arm says which it is.
pub returns-in-Done : goal.returns-in-Done
returns-in-Done c =
    let job = c.args.job.now in
    let done = sym (ap (λ (a : Answered). a.answer) c.open-opened.ensures.value) ∙ c.in-Done.is in
    line_written (division_output job c.args.t) _ c.args.out.now _ _
    (opened_output job c.args.t done ∙
    sym (ap (λ (r : Record). worked_output r c.args.t)
    (c.run_job.ensures ∙ ap (λ (a : Answered). job_run job a.after) c.open-opened.ensures.value)))
    c.answer_record.ensures

pub returns-in-Ran : goal.returns-in-Ran
returns-in-Ran c = never_ran c.args.job.now _ _ (sym (ap (λ (a : Answered). a.answer) c.open-opened.ensures.value) ∙ c.in-Ran.is)

pub returns-in-Refused : goal.returns-in-Refused
returns-in-Refused c =
    line_written (division_output c.args.job.now c.args.t) _ c.args.out.now _ _
    (refused_output c.args.job.now c.args.t _ (sym (ap (λ (a : Answered). a.answer) c.open-opened.ensures.value) ∙ c.in-Refused.is))
    c.refuse.ensures
