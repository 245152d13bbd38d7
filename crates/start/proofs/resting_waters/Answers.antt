use native.Mathlib.Omega.{arith}
use borrow.Author.Count.{below_more}
use Rattle.std.specs.Prelude.{Some}
use mathlib.Core.Path.{sym, ap, ◌∙◌}
use Rattle.numbers.proofs.Filled.{filled_zero, filled_store}
use Rattle.start.specs.Rest.{all_or_none}
use Rattle.start.proofs.Filling.{height_is, filling_stops, filling_ends}
use Rattle.start.proofs.resting_waters.Goals as goal

pub loop-j-init : goal.loop-j-init
loop-j-init c = (sym (filled_zero _ _), λ i h. absurd (omega arith))

pub resting_under-requires : goal.resting_under-requires
resting_under-requires c = let i = c.loop-j.j in record {
  load_le_most = (c.requires.load_le_most, c.requires.by_index i (omega arith));
  solids_nonzero = c.requires.by_index_2 i (omega arith);
  least_le_points = c.requires.least_le_points;
  stress_value = c.requires.stress_value;
}

pub returns-in-None : goal.returns-in-None
unfolding all_or_none
returns-in-None c = let t = filling_stops _ _ _ _ _ _ _ c.loop-j.j c.loop-j.invariant.0 c.loop-j.invariant.1 (omega arith)
    (sym c.in-None.ensures) in record {
      solids_value = t.0;
      water_after = t.1;
    }

pub loop-j-preserved : goal.loop-j-preserved
loop-j-preserved c =
    let found = sym c.in-Some.ensures in (
      filled_store _ _ _ _ _ (omega (arith, c.requires.water_len)) c.loop-j.invariant.0 (height_is found),
      below_more _ _ c.loop-j.invariant.1 (found ∙ ap Some (height_is found)),
    )

pub returns : goal.returns
unfolding all_or_none
returns c = let t = filling_ends _ _ _ _ _ _ _ c.loop-j.j c.loop-j.invariant.0 c.loop-j.invariant.1 (omega arith) in record {
  solids_value = t.0;
  water_after = t.1;
}
