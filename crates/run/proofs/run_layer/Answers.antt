use borrow.Author.Rules.{rules}
use borrow.Author.Tests.{le-ltb}
use mathlib.Core.Path.{refl, sym, ap, ◌∙◌}
use native.Mathlib.Omega.{arith}
use Rattle.lent.proofs.Standing.{counted, weighted, solid}
use Rattle.numbers.specs.Arrays.{zeros}
use Rattle.quantities.proofs.Limits.{inside}
use Rattle.quantities.specs.Quantities.{clock_limits, budget_limits}
use Rattle.rules.specs.declared.record.Record.{Record}
use Rattle.run.proofs.RunLaws.{ran_to, run_within}
use Rattle.run.proofs.run_layer.Goals as goal
use Rattle.run.proofs.run_layer.Lts as lts
use Rattle.run.proofs.run_layer.Reads as reads
use Rattle.run.proofs.run_layer.Tie as tie

pub burdens-requires : goal.burdens-requires
burdens-requires c = let r = c.args.r in
    let is = c.requires.r_value in record {
      elements_le_most = (counted r is).1;
      least_le_gravity = weighted r is;
      by_index = (λ j h. (solid r is j h).1);
      burden_len = refl;
    }

-- what is lent of the record
module _ (c : lts.After-burden2 tie.the-claims reads.Pre reads.Post tie.handed_clauses) where
  abbrev f : lts.After-burdens tie.the-claims reads.Pre reads.Post tie.handed_clauses
  f = c.before.before.before.before.before.before.before.before.before.before.before.before.before

  abbrev start : lts.Start tie.the-claims reads.Pre reads.Post tie.handed_clauses
  start = f.before.before.before.before

pub run_lent-ended-requires : goal.run_lent-ended-requires
unfolding zeros
run_lent-ended-requires c = record {
  r_value = (start c).requires.r_value;
  clock_le_end = (start c).requires.clock_le_end;
  water_len = (search rules, (f c).burdens.ensures);
}

pub returns : goal.returns
returns c =
    let l = c.before.before in
    let s = start l.before in
    let (early, late, few) = s.requires.clock_le_end in
    let r = s.args.r in
    let ended = l.run_lent-ended.result in
    ap (λ (after : Record). ran_to (record { stop = ended.stop; steps = ended.steps; after = after })) c.with_parts.ensures ∙
    sym (run_within r s.args.end s.args.budget s.requires.r_value (le-ltb s.args.end r.layer.progress.clock.0 early)
    (inside clock_limits s.args.end (omega arith) late) (inside budget_limits s.args.budget (omega arith) few) refl ∙ ap ran_to l.run_lent-ended.ensures)
