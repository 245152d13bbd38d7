use native.Mathlib.Omega.{arith}
use Rattle.rules.proofs.Sound.{compressible}
use Rattle.layer_step.proofs.prepare.Goals as goal

pub water_bounds-requires : goal.water_bounds-requires
water_bounds-requires c = let k = compressible _ _ _ c.requires.least_le_points.2 in record {
  elements_le_most = c.requires.elements_le_most;
  by_index = c.requires.by_index;
  least_le_most = (k.void_high _ (omega (arith, c.requires.least_le_points.0)), k.void_high _ (omega (arith, c.requires.least_le_points.0)));
  low_len = (c.requires.sensitivity_len.1, c.requires.sensitivity_len.2);
}

pub returns : goal.returns
returns c = record {
  value = c.curve_steepness.ensures;
  sensitivity_after = c.sensitivities.ensures;
  low_after = c.water_bounds.ensures.low_after;
  high_after = c.water_bounds.ensures.high_after;
}
