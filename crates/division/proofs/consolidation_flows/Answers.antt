use mathlib.Core.Path.{◌≡◌, refl, sym, ap, ◌∙◌}
use Rattle.division.proofs.FlowLaws.{returns_as, job_refused, job_opened, opened_layer, never_ran}
use Rattle.division.specs.JobFlows.{run_to_flows}
use Rattle.numbers.proofs.Signed.{read_back}
use Rattle.rules.specs.Opening.{opening}
use Rattle.rules.specs.declared.answers.Answer.TheVariants.{Done}
use Rattle.rules.specs.declared.answers.Answered.{Answered}
use Rattle.division.proofs.consolidation_flows.Goals as goal
use Rattle.division.proofs.consolidation_flows.Lts as lts
use Rattle.division.proofs.consolidation_flows.Reads as reads
use Rattle.division.proofs.consolidation_flows.Tie as tie

module _ (c : lts.Past-After-enum_told tie.the-claims reads.Pre reads.Post tie.handed_clauses) where
  abbrev start : lts.Start tie.the-claims reads.Pre reads.Post tie.handed_clauses
  start = c.before.before.before.before

  done : (opening start.args.job.now).answer ≡ Done
  done = sym (ap (λ (a : Answered). a.answer) c.before.before.open-opened.ensures.value) ∙ c.in-Done.is

pub run_to_flows-requires : goal.run_to_flows-requires
run_to_flows-requires c =
    let e = c.before.before.before in
    let s = start e in
    rw e.before.before.open-opened.ensures.value (opened_layer s.args.job.now (done e))

pub returns-in-Done : goal.returns-in-Done
returns-in-Done c = let t = let e = c.before.before.before.before.before.before in
    let s = start e in
    let told = c.run_to_flows.ensures in
    returns_as (job_opened s.args.job.now s.args.seconds s.args.flows.now s.args.remainders.now (done e))
    (returns_as (ap (λ (a : Answered). run_to_flows s.args.job.now a.after s.args.seconds s.args.flows.now s.args.remainders.now) (sym e.before.before.open-opened.ensures.value))
    (read_back {z = c.run_to_flows.result} (record { sfits = c.run_to_flows.type_inv }) ∙ told.value, (told.flows_after, told.remainders_after))) in record {
      value = t.0;
      flows_after = t.1.0;
      remainders_after = t.1.1;
    }

pub returns-in-Ran : goal.returns-in-Ran
returns-in-Ran c = never_ran c.args.job.now _ _ (sym (ap (λ (a : Answered). a.answer) c.open-opened.ensures.value) ∙ c.in-Ran.is)

pub returns-in-Refused : goal.returns-in-Refused
returns-in-Refused c = let t = returns_as
    (job_refused c.args.job.now c.args.seconds c.args.flows.now c.args.remainders.now _
    (sym (ap (λ (a : Answered). a.answer) c.open-opened.ensures.value) ∙ c.in-Refused.is))
    (read_back {z = c.minus_number.result} (record { sfits = c.minus_number.type_inv }) ∙ c.minus_number.ensures, (refl, refl)) in record {
      value = t.0;
      flows_after = t.1.0;
      remainders_after = t.1.1;
    }
