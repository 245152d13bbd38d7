use Prim.Native.Nat.{ℕ}
use mathlib.Core.List.{List}
use mathlib.Core.Path.{◌≡◌, sym, ap, ◌∙◌}
use Rattle.lent_step.specs.Answers.{step_answered}
use Rattle.rules.specs.declared.answers.Refusal.{Refusal}
use Rattle.rules.specs.declared.record.Progress.{Progress}
use Rattle.std.specs.Prelude.{Result, Ok, Err}
use Rattle.lent.proofs.StepLaws.{step_refused}
use Rattle.rules.specs.Calls.{called}
use Rattle.rules.specs.declared.answers.Answer.TheVariants.{Done}
use Rattle.rules.specs.declared.answers.Answered.{Answered}
use Rattle.rules.specs.declared.answers.Call.TheVariants.{Step}
use Rattle.rules.specs.declared.record.Record.{Record}
use Rattle.step.proofs.step_layer.Goals as goal
use Rattle.step.proofs.step_layer.Lts as lts
use Rattle.step.proofs.step_layer.Reads as reads
use Rattle.step.proofs.step_layer.Tie as tie

module _ (c : lts.After-step_lent-arg10 tie.the-claims reads.Pre reads.Post tie.handed_clauses) where
  abbrev start : lts.Start tie.the-claims reads.Pre reads.Post tie.handed_clauses
  start = c.before.before.before.before.before.before.before.before.before.before.before.before

  abbrev r : Record
  r = start.args.r

pub step_lent-stepped-requires-clause-r_value : goal.step_lent-stepped-requires-clause-r_value
step_lent-stepped-requires-clause-r_value c = c.requires.r_value

-- what the step answers, and the water that it leaves
module _ (c : lts.After-step_lent tie.the-claims reads.Pre reads.Post tie.handed_clauses) where
  abbrev a : lts.After-step_lent-arg10 tie.the-claims reads.Pre reads.Post tie.handed_clauses
  a = c.before

  abbrev water : List ℕ
  water = c.step_lent-stepped.new.water

  answers : (s : Result Progress Refusal) → c.step_lent-stepped.result ≡ s → step_answered (r a) s water ≡ called (r a) (Step (start a).args.t)
  answers s e = ap (λ (x : Result Progress Refusal). step_answered (r a) x water) (sym e) ∙ c.step_lent-stepped.ensures

pub returns-in-Err : goal.returns-in-Err
unfolding step_answered
returns-in-Err c =
    let m = c.before in
    let f = m.before in
    let cause = m.in-Err.cause in
    c.refused.ensures ∙
    step_refused (r (a f)) (start (a f)).args.t cause (start (a f)).requires.r_value (sym (ap (λ (x : Answered). x.answer) (answers f (Err cause) m.in-Err.is)))

pub returns-in-Ok : goal.returns-in-Ok
unfolding step_answered
returns-in-Ok c =
    let m = c.before in
    let f = m.before in
    let progress = m.in-Ok.progress in
    ap (λ (x : Record). record { answer = Done; after = x }) c.with_parts.ensures ∙ answers f (Ok progress) m.in-Ok.is
