use Prim.Native.Nat.{ℕ}
use borrow.Author.Tests.{lt-ltb, le-ltb}
use lib.Dec.{ltb}
use mathlib.Core.Bool.{true, false}
use mathlib.Core.Path.{◌≡◌, refl, sym, ◌∙◌}
use Rattle.lent.proofs.CallLaws.{in_numbers, not_layer}
use Rattle.numbers.proofs.Searches.{passed}
use Rattle.quantities.proofs.Limits.{within_parts, tested_some, tested_none}
use Rattle.quantities.specs.Quantities.{within, clock_limits, budget_limits}
use Rattle.rules.specs.Record.{is_layer}
use Rattle.rules.specs.declared.answers.Call.TheVariants.{Run}
use Rattle.rules.specs.declared.record.Record.{Record}
use Rattle.run.proofs.RunLaws.{run_outside}
use Rattle.run.proofs.take_run.Goals as goal
use Rattle.run.proofs.take_run.Lts as lts
use Rattle.run.proofs.take_run.Reads as reads
use Rattle.run.proofs.take_run.Tie as tie

pub returns-then-not-is_layer : goal.returns-then-not-is_layer
returns-then-not-is_layer c = let t = in_numbers c.args.r (Run c.args.end c.args.budget)
    (c.refused.ensures ∙ sym (not_layer c.args.r (Run c.args.end c.args.budget) (sym c.is_layer.ensures ∙ c.if-not-is_layer.true))) in record {
      value = t.0;
      answer_value = t.1;
    }

-- the record is a layer
module _ (c : lts.After-struct_known tie.the-claims reads.Pre reads.Post tie.handed_clauses) where
  abbrev start : lts.Start tie.the-claims reads.Pre reads.Post tie.handed_clauses
  start = c.before.before.before.before

  abbrev r : Record
  r = start.args.r

  is : is_layer r ≡ true
  is = sym c.is_layer.ensures ∙ c.if-not-is_layer.false

pub returns-then-end-clock : goal.returns-then-end-clock
returns-then-end-clock c = let t = let k = c.before.before in
    let a = (start k).args in
    in_numbers (r k) (Run a.end a.budget)
    (c.refused-then-end-clock.ensures ∙ sym (run_outside (r k) a.end a.budget (is k) (lt-ltb a.end (r k).layer.progress.clock.0 c.if-end-clock.true) refl refl refl)) in record {
      value = t.0;
      answer_value = t.1;
    }

-- the end is not before its clock
module _ (c : lts.After-new tie.the-claims reads.Pre reads.Post tie.handed_clauses) where
  abbrev k₁ : lts.After-struct_known tie.the-claims reads.Pre reads.Post tie.handed_clauses
  k₁ = c.before.before

  abbrev end : ℕ
  end = (start k₁).args.end

  abbrev budget : ℕ
  budget = (start k₁).args.budget

  not-early : ltb end (r k₁).layer.progress.clock.0 ≡ false
  not-early = le-ltb end (r k₁).layer.progress.clock.0 c.if-end-clock.false

pub returns-in_default : goal.returns-in_default
returns-in_default c = let t = let n = c.before.before in
    let k = k₁ n in
    in_numbers (r k) (Run (end n) (budget n))
    (c.refused-in_default.ensures ∙ sym (run_outside (r k) (end n) (budget n) (is k) (not-early n) (tested_none _ _ _ (sym c.in_default.is ∙ n.new.ensures)) refl refl)) in record {
      value = t.0;
      answer_value = t.1;
    }

-- the end keeps its limits
module _ (c : lts.After-within tie.the-claims reads.Pre reads.Post tie.handed_clauses) where
  abbrev n₁ : lts.After-new tie.the-claims reads.Pre reads.Post tie.handed_clauses
  n₁ = c.before.before

  timed : within clock_limits (end n₁) ≡ true
  timed = (tested_some _ _ _ (sym c.in-Some.is ∙ n₁.new.ensures)).0

pub returns-then-not-within : goal.returns-then-not-within
returns-then-not-within c = let t = let h = c.before.before in
    let n = n₁ h in
    let k = k₁ n in
    in_numbers (r k) (Run (end n) (budget n))
    (c.refused-then-not-within.ensures ∙ sym (run_outside (r k) (end n) (budget n) (is k) (not-early n) (timed h) (sym h.within.ensures ∙ c.if-not-within.true) refl)) in record {
      value = t.0;
      answer_value = t.1;
    }

pub run_layer-requires : goal.run_layer-requires
run_layer-requires c = let h = c.before in
    let n = n₁ h in record {
      r_value = is (k₁ n);
      clock_le_end = (
        n.if-end-clock.false,
        (within_parts clock_limits (end n) (passed (timed h))).1,
        (within_parts budget_limits (budget n) (passed (sym h.within.ensures ∙ c.if-not-within.false))).1,
      );
    }

pub returns : goal.returns
returns c = let t = let n = n₁ c.before.before in in_numbers (r (k₁ n)) (Run (end n) (budget n)) c.run_layer.ensures in record {
  value = t.0;
  answer_value = t.1;
}
