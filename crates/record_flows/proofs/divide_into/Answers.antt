use mathlib.Core.Path.{◌≡◌, sym, ap, ◌∙◌}
use Rattle.record_flows.proofs.Answering.{accepted, refused}
use Rattle.record_flows.proofs.Moving.{Taken, done_taken, never_ran, short}
use Rattle.rules.specs.Calls.{called}
use Rattle.rules.specs.declared.answers.Answer.TheVariants.{Done}
use Rattle.rules.specs.declared.answers.Answered.{Answered}
use Rattle.rules.specs.declared.answers.Call.TheVariants.{Step}
use Rattle.record_flows.proofs.divide_into.Goals as goal
use Rattle.record_flows.proofs.divide_into.Lts as lts
use Rattle.record_flows.proofs.divide_into.Reads as reads
use Rattle.record_flows.proofs.divide_into.Tie as tie

module _ (c : lts.Past-After-enum_told tie.the-claims reads.Pre reads.Post tie.handed_clauses) where
  abbrev s : lts.Start tie.the-claims reads.Pre reads.Post tie.handed_clauses
  s = c.before.before

  done : (called s.args.r (Step s.args.t)).answer ≡ Done
  done = sym (ap (λ (a : Answered). a.answer) c.take_step-stepped.ensures.value) ∙ c.in-Done.is

  taken : Taken s.args.r s.args.t
  taken = done_taken s.args.r s.args.t done

pub divide_layer-requires : goal.divide_layer-requires
divide_layer-requires c = let e = c.before.before in record {
  r_value = (taken e).is;
  t_le_most = short _ _ (taken e);
  r_in_bounds = ((s e).requires.0 (taken e).is, (s e).requires.1 (taken e).is);
}

pub returns-in-Done : goal.returns-in-Done
returns-in-Done c = let t = let e = c.before.before.before.before.before in
    let told = c.divide_layer.ensures in
    accepted (s e).args.r (s e).args.t (s e).args.flows.now (s e).args.remainders.now (done e) (taken e) told.value told.flows_after told.remainders_after in record {
      value = t.0;
      flows_after = t.1.0;
      remainders_after = t.1.1.0;
      long_division = t.1.1.1;
    }

pub returns-in-Ran : goal.returns-in-Ran
returns-in-Ran c = never_ran c.args.r c.args.t _ _ (sym (ap (λ (a : Answered). a.answer) c.take_step-stepped.ensures.value) ∙ c.in-Ran.is)

pub returns-in-Refused : goal.returns-in-Refused
returns-in-Refused c = let t = refused c.args.r c.args.t c.args.flows.now c.args.remainders.now _
    (sym (ap (λ (a : Answered). a.answer) c.take_step-stepped.ensures.value) ∙ c.in-Refused.is) in record {
      value = t.0;
      flows_after = t.1.0;
      remainders_after = t.1.1.0;
      long_division = t.1.1.1;
    }
