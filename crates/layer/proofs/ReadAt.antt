-- What an element on a sound soil reads keeps its range.
use Prim.Native.Nat.{ℕ, ◌≤◌, ◌<◌}
use lib.Dec.{T}
use lib.IntN.{ℤ}
use mathlib.Core.List.{List}
use Rattle.laws.proofs.Excess as Excess
use Rattle.laws.proofs.Ranges.{conductivity_ranged, conducts}
use Rattle.laws.proofs.VoidRatio.{water_on_curve}
use Rattle.layer.specs.Soil.{SoilSound, OnSoil}
use Rattle.numbers.proofs.Searches.{passed}
use Rattle.rules.specs.Curve.{points, curve_at, is_on, value_of}
use Rattle.rules.specs.Layer.{skeleton_of, void_ratio, effective_stress, hydraulic_conductivity}
use Rattle.quantities.specs.Quantities.{stress_limits, conductivity_limits, water_limits}

module _ (m : ℕ) (void stress : List ℕ) (n : ℕ) (conductivity_void conductivity : List ℕ) (soil : SoilSound m void stress n conductivity_void conductivity)
    (load : ℤ) (B S W : ℕ) (on : OnSoil m void stress load B S W) where
  is_on_lem : T (is_on (curve_at (points m void stress) (void_ratio S W)))
  unfolding effective_stress
  is_on_lem = passed on.is_on_curve

  pub water_most : W ≤ water_limits.most
  water_most =
      water_on_curve S on.solids_positive (points m void stress) W on.solids_most (passed soil.compressibility_is_sound) is_on_lem

  pub stress_most : value_of (effective_stress (skeleton_of (points m void stress)) S W) ≤ stress_limits.most
  unfolding effective_stress
  stress_most = Excess.stress_most (points m void stress) (passed soil.compressibility_is_sound) (void_ratio S W)

  -- what is on the first curve is on the second
  pub conductivity_range : (0 < value_of (hydraulic_conductivity (points n conductivity_void conductivity) S W)) ×
      (value_of (hydraulic_conductivity (points n conductivity_void conductivity) S W) ≤ conductivity_limits.most)
  unfolding hydraulic_conductivity
  conductivity_range =
      let first = points m void stress in
      let second = points n conductivity_void conductivity in
      let sound = passed soil.conductivity_is_sound in
      let on-second = conducts second first (void_ratio S W) (passed soil.compressibility_is_sound) sound is_on_lem in
      let r = conductivity_ranged second first (void_ratio S W) sound on-second in
      (r.lowest, r.highest)
