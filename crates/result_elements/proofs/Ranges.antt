-- What a result says of an element keeps its range.
use Prim.Native.Nat.{ℕ, ◌≤◌}
use lib.IntN.{ℤ, pos, ◌-ℤ◌}
use mathlib.Core.Bool.{true}
use mathlib.Core.List.{List}
use mathlib.Core.Path.{◌≡◌}
use native.Mathlib.Omega.{arith}
use Rattle.laws.specs.Most.{most_excess}
use Rattle.laws.proofs.Excess as Excess
use Rattle.laws.proofs.Sizes.{signed_between}
use Rattle.laws.proofs.VoidRatio.{water_on_curve}
use Rattle.layer.specs.Soil.{OnSoil}
use Rattle.numbers.specs.Interval.{Within}
use Rattle.numbers.proofs.Interval.{intervals, within-add}
use Rattle.numbers.proofs.Searches.{passed}
use Rattle.numbers.proofs.Signed.{one_sided, sub_parts}
use Rattle.result_elements.specs.Elements.{most_height, most_pore}
use Rattle.quantities.proofs.Limits.{pressure-within}
use Rattle.quantities.specs.Quantities.{level_limits, solids_limits, stress_limits, water_limits, within_ℤ}
use Rattle.rules.specs.Curve.{Point, points, value_of, compressibility_sound}
use Rattle.rules.specs.Layer.{skeleton_of, void_ratio, effective_stress, excess_pressure}
use Rattle.rules.specs.Result.{node_height, pore_over}

module _ (level : ℤ) (z : ℕ) (limited : within_ℤ level_limits level ≡ true) (low : z ≤ level_limits.most) where
  pub level_within : Within level level_limits.most
  level_within = let b = signed_between level_limits level (passed limited) in omega (intervals, one_sided level, b.0, b.1)

  -- the head over a node
  pub head-within : Within (level -ℤ pos z) level_limits.most
  head-within =
      let b = signed_between level_limits level (passed limited) in
      omega (intervals, one_sided (level -ℤ pos z), sub_parts level (pos z), b.0, b.1)

  -- and its pore pressure
  pub pore_within : {excess : ℤ} → Within excess most_excess → Within (pore_over excess level z) most_pore
  unfolding pore_over
  pore_within w = within-add w (pressure-within head-within)

-- ---- an element on a sound curve

module _ (m : ℕ) (void stress : List ℕ) (sound : compressibility_sound (points m void stress) ≡ true) (load : ℤ) (B S W : ℕ)
    (on : OnSoil m void stress load B S W) where
  abbrev curve : List Point
  curve = points m void stress

  pub water_most : W ≤ water_limits.most
  unfolding effective_stress
  water_most = water_on_curve S on.solids_positive curve W on.solids_most (passed sound) (passed on.is_on_curve)

  pub stress_most : value_of (effective_stress (skeleton_of curve) S W) ≤ stress_limits.most
  unfolding effective_stress
  stress_most = Excess.stress_most curve (passed sound) (void_ratio S W)

  pub excess_within : Within (excess_pressure (skeleton_of curve) load B S W) most_excess
  excess_within = Excess.excess_within curve (passed sound) load B S W on.load_between on.burden_most

-- the node of one of 128 elements lies below the highest level
pub node_low : (below S W : ℕ) → below ≤ most_height → S ≤ solids_limits.most → W ≤ water_limits.most → node_height below S W ≤ level_limits.most
unfolding node_height
node_low below S W h k l = omega arith
