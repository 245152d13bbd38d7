use Prim.Native.Nat.{ℕ}
use native.Mathlib.Omega.{arith}
use mathlib.Core.Bool.{true}
use mathlib.Core.Path.{◌≡◌, sym, ◌∙◌}
use Rattle.lent.proofs.CallLaws.{in_numbers, not_layer, refused_on_layer}
use Rattle.lent.proofs.Standing.{state_is}
use Rattle.lent.proofs.StepLaws.{step_length_outside, clock_outside}
use Rattle.numbers.proofs.Searches.{passed}
use Rattle.quantities.proofs.Limits.{within_parts, tested_some, tested_none}
use Rattle.quantities.specs.Quantities.{within, step_limits}
use Rattle.rules.specs.Record.{record_state, is_layer}
use Rattle.rules.specs.declared.answers.Call.TheVariants.{Step}
use Rattle.rules.specs.declared.answers.Refusal.TheVariants.{StepOutside}
use Rattle.step.proofs.take_step.Goals as goal
use Rattle.step.proofs.take_step.Lts as lts
use Rattle.step.proofs.take_step.Reads as reads
use Rattle.step.proofs.take_step.Tie as tie

pub returns-then-not-is_layer : goal.returns-then-not-is_layer
returns-then-not-is_layer c = let t = in_numbers c.args.r (Step c.args.t)
    (c.refused.ensures ∙ sym (not_layer c.args.r (Step c.args.t) (sym c.is_layer.ensures ∙ c.if-not-is_layer.true))) in record {
      value = t.0;
      answer_value = t.1;
    }

-- the record is a layer
standing : (c : lts.Else1 tie.the-claims reads.Pre reads.Post tie.handed_clauses) → is_layer c.args.r ≡ true
standing c = sym c.is_layer.ensures ∙ c.if-not-is_layer.false

pub returns-then-not-within : goal.returns-then-not-within
returns-then-not-within c = let t = let e = c.before.before.before in
    in_numbers e.args.r (Step e.args.t)
    (c.refused-then-not-within.ensures ∙
    sym (refused_on_layer e.args.r (Step e.args.t) StepOutside (standing e)
    (step_length_outside _ _ e.args.t (sym c.within.ensures ∙ c.if-not-within.true)))) in record {
      value = t.0;
      answer_value = t.1;
    }

-- the step keeps its limits
module _ (c : lts.After-struct_known tie.the-claims reads.Pre reads.Post tie.handed_clauses) where
  abbrev e : lts.Else1 tie.the-claims reads.Pre reads.Post tie.handed_clauses
  e = c.before.before.before.before

  abbrev s : lts.Start tie.the-claims reads.Pre reads.Post tie.handed_clauses
  s = e.before.before

  abbrev clock : ℕ
  clock = s.args.r.layer.progress.clock.0

  in-limits : within step_limits s.args.t ≡ true
  in-limits = sym c.within.ensures ∙ c.if-not-within.false

pub overflow_add-clock : goal.overflow_add-clock
overflow_add-clock c =
    let few = (within_parts step_limits (s c).args.t (passed (in-limits c))).1 in
    omega (arith, few, (state_is (s c).args.r (standing (e c))).clock_most)

pub returns-in-None : goal.returns-in-None
unfolding record_state
returns-in-None c = let t = let n = c.before.before in
    let k = n.before in
    let t = (s k).args.t in
    in_numbers (s k).args.r (Step t)
    (c.refused-in-None.ensures ∙
    sym (refused_on_layer (s k).args.r (Step t) StepOutside (standing (e k))
    (clock_outside _ _ t (in-limits k) (tested_none _ _ _ (sym c.in-None.is ∙ n.new.ensures))))) in record {
      value = t.0;
      answer_value = t.1;
    }

pub step_layer-requires : goal.step_layer-requires
step_layer-requires c = let n = c.before in
    let k = n.before in record {
      r_value = standing (e k);
      t_value = (in-limits k, (tested_some _ _ _ (sym c.in-Some.is ∙ n.new.ensures)).0);
    }

pub returns-in-Some : goal.returns-in-Some
returns-in-Some c = let t = let k = c.before.before.before in
    in_numbers (s k).args.r (Step (s k).args.t) c.step_layer.ensures in record {
      value = t.0;
      answer_value = t.1;
    }
