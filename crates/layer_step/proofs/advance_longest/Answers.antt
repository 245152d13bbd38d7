use Prim.Native.Nat.{◌≤◌, ◌<◌}
use native.Mathlib.Omega.{arith}
use native.Mathlib.Nat.{le_trans}
use mathlib.Core.Path.{◌≡◌, sym, ◌∙◌}
use Rattle.laws.proofs.Longest.{greatest_most}
use Rattle.layer_step.proofs.MovingAt.{none_taken, off_curve, is_on_curve}
use Rattle.quantities.specs.Quantities.{step_limits}
use Rattle.step_length.specs.Reach.{longest_within}
use Rattle.layer_step.proofs.advance_longest.Goals as goal
use Rattle.layer_step.proofs.advance_longest.Lts as lts
use Rattle.layer_step.proofs.advance_longest.Reads as reads
use Rattle.layer_step.proofs.advance_longest.Tie as tie

pub longest-t-requires : goal.longest-t-requires
longest-t-requires c = record {
  elements_nonzero = c.requires.elements_nonzero;
  steepness_nonzero = (c.requires.steepness_nonzero.0, c.requires.steepness_nonzero.1);
  limited = c.requires.steepness_nonzero.2;
  most_le_most = c.requires.held_within.2;
}

module _ (c : lts.After-longest tie.the-claims reads.Pre reads.Post tie.handed_clauses) where
  abbrev s : lts.Start tie.the-claims reads.Pre reads.Post tie.handed_clauses
  s = c.before

  longest_is : longest_within s.args.top s.args.bottom s.args.steepness s.args.elements s.args.resistance.now s.args.sensitivity.now s.args.most ≡ c.longest-t.result
  longest_is = sym c.longest-t.ensures

  -- it is within the limits of a step
  short : c.longest-t.result ≤ step_limits.most
  unfolding longest_within
  short = rw c.longest-t.ensures (le_trans (greatest_most _ s.args.most) s.requires.held_within.2)

pub returns-then-t-eq0 : goal.returns-then-t-eq0
returns-then-t-eq0 c = let a = (s c.before).args in
    let gives = none_taken a.top a.bottom a.elements a.low.now a.high.now a.water.now a.excess.now a.resistance.now a.above.now (longest_is c.before ∙ c.if-t-eq0.true) in record {
      value = gives.0;
      water_after = gives.1;
      above_after = gives.2;
    }

pub advance-requires : goal.advance-requires
advance-requires c = let l = c.before.before.before in
    let p = (s l).requires in record {
      elements_nonzero = p.elements_nonzero;
      held_within = (p.held_within.0, p.held_within.1);
      t_le_most = short l;
      readable = p.readable;
      by_index = p.by_index;
      above_len = p.above_len;
    }

-- a step is taken
module _ (c : lts.After-advance tie.the-claims reads.Pre reads.Post tie.handed_clauses) where
  abbrev l : lts.After-longest tie.the-claims reads.Pre reads.Post tie.handed_clauses
  l = c.before.before.before.before

  positive : 0 < l.longest-t.result
  positive = let some = c.if-t-eq0.false in omega (arith, some)

pub returns-in-None : goal.returns-in-None
returns-in-None c = let v = c.before in
    let a = (s (l v)).args in
    let gave = v.advance.ensures in
    let gives = off_curve a.top a.bottom a.elements a.low.now a.high.now a.water.now a.excess.now a.resistance.now a.above.now (l v).longest-t.result (longest_is (l v)) (positive v) (sym c.in-None.is ∙ gave.value) gave.water_after gave.above_after in record {
      value = gives.0;
      water_after = gives.1;
      above_after = gives.2;
    }

pub returns-in-Some : goal.returns-in-Some
returns-in-Some c = let v = c.before in
    let a = (s (l v)).args in
    let gave = v.advance.ensures in
    let gives = is_on_curve a.top a.bottom a.elements a.low.now a.high.now a.water.now a.excess.now a.resistance.now a.above.now (l v).longest-t.result (longest_is (l v)) (positive v) (sym c.in-Some.is ∙ gave.value) gave.water_after gave.above_after in record {
      value = gives.0;
      water_after = gives.1;
      above_after = gives.2;
    }
