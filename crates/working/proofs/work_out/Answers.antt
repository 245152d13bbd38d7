use mathlib.Core.Path.{◌≡◌, sym, ap, ◌∙◌}
use Rattle.record_flows.proofs.Moving.{Taken, done_taken, never_ran, short}
use Rattle.rules.specs.Calls.{called}
use Rattle.rules.specs.declared.answers.Answer.TheVariants.{Done}
use Rattle.rules.specs.declared.answers.Answered.{Answered}
use Rattle.rules.specs.declared.answers.Call.TheVariants.{Step}
use Rattle.working.proofs.Answering.{accepted, refused}
use Rattle.working.proofs.work_out.Goals as goal
use Rattle.working.proofs.work_out.Lts as lts
use Rattle.working.proofs.work_out.Reads as reads
use Rattle.working.proofs.work_out.Tie as tie

module _ (c : lts.Past-After-enum_told tie.the-claims reads.Pre reads.Post tie.handed_clauses) where
  abbrev s : lts.Start tie.the-claims reads.Pre reads.Post tie.handed_clauses
  s = c.before.before.before

  is : c.take_step-stepped.result ≡ called s.args.r (Step s.args.t)
  is = c.take_step-stepped.ensures.value

  done : (called s.args.r (Step s.args.t)).answer ≡ Done
  done = sym (ap (λ (a : Answered). a.answer) is) ∙ c.in-Done.is

  taken : Taken s.args.r s.args.t
  taken = done_taken s.args.r s.args.t done

pub put_words-requires : goal.put_words-requires
put_words-requires c = let e = c.before.before in record {
  r_value = (taken e).is;
  t_le_most = short _ _ (taken e);
  in_bounds = (s e).requires;
}

pub returns-in-Done : goal.returns-in-Done
returns-in-Done c = let t = let e = c.before.before.before.before.before.before in
    let told = c.put_words.ensures in
    accepted (s e).args.r (s e).args.t (s e).args.out.now (done e) (ap (λ (a : Answered). a.after) (is e)) told.value told.out_after in record {
      value = t.0;
      out_after = t.1;
    }

pub returns-in-Ran : goal.returns-in-Ran
returns-in-Ran c = never_ran c.args.r c.args.t _ _ (sym (ap (λ (a : Answered). a.answer) c.take_step-stepped.ensures.value) ∙ c.in-Ran.is)

pub returns-in-Refused : goal.returns-in-Refused
returns-in-Refused c = let t = refused c.args.r c.args.t c.args.out.now _
    (sym (ap (λ (a : Answered). a.answer) c.take_step-stepped.ensures.value) ∙ c.in-Refused.is) in record {
      value = t.0;
      out_after = t.1;
    }
