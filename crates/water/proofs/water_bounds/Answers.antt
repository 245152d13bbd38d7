use native.Mathlib.Omega.{arith}
use Rattle.numbers.proofs.Filled.{filled_store}
use Rattle.water.proofs.water_bounds.Goals as goal

pub loop-j-preserved : goal.loop-j-preserved
loop-j-preserved c = (
  filled_store _ _ _ _ _ (omega (arith, c.requires.low_len.0)) c.loop-j.invariant.0 c.lowest_water.ensures.0,
  filled_store _ _ _ _ _ (omega (arith, c.requires.low_len.1)) c.loop-j.invariant.1 c.highest_water.ensures.0,
)
