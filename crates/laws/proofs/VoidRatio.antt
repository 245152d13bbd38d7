-- The void ratio of an element grows by at most the element's sensitivity for each nanometre.
use Prim.Native.Nat.{ℕ, ◌+◌, ◌-◌, ◌*◌, ◌≤◌, ◌<◌}
use native.Mathlib.Nat.{le_refl, mul_comm, mul-le-mul}
use native.Mathlib.Omega.{arith}
use lib.Dec.{T, lit<}
use mathlib.Core.List.{List}
use mathlib.Core.Path.{◌≡◌}
use Rattle.numbers.specs.Interpolation.{share}
use Rattle.numbers.proofs.Shares.{interpolates}
use Rattle.numbers.proofs.Division.{floor-remainder, ceil_pos}
use Rattle.rules.specs.Curve.{Point, curve_at, is_on, compressibility_sound}
use Rattle.rules.specs.Layer.{void_ratio, sensitivity}
use Rattle.quantities.specs.Quantities.{void_limits, solids_limits, water_limits, void_unit}
use Rattle.laws.proofs.Ranges.{compressibility_ranged}

module _ (S : ℕ) (solid : 0 < S) where
  -- the void ratio is the water's share of the solids' void ratio of 1
  is_share : (W : ℕ) → void_ratio S W ≡ share void_unit W S
  unfolding void_ratio share
  is_share W = rw (mul_comm W void_unit)

  -- the void ratio grows by at most the sensitivity for each nanometre of water
  pub void_ratio_slope : (U W : ℕ) → U ≤ W → void_ratio S W ≤ void_ratio S U + sensitivity S * (W - U)
  unfolding sensitivity
  void_ratio_slope U W h =
      let e : U + (W - U) ≡ W = omega arith in
      rw (is_share U, is_share W) (rw e at ((interpolates void_unit S solid).slope U (W - U)))

  -- the sensitivity is not 0
  pub sensitivity_pos : 0 < sensitivity S
  unfolding sensitivity
  sensitivity_pos = ceil_pos solid void_unit (lit< tt)

  -- solids and void ratio within their limits, the water is within its own
  pub water_bound : (W : ℕ) → S ≤ solids_limits.most → void_ratio S W ≤ void_limits.most → W ≤ water_limits.most
  unfolding void_ratio
  water_bound W h k =
      let (whole, part) = floor-remainder solid (W * void_unit) in
      omega (arith, mul-le-mul k (le_refl S))

  -- an element on a sound compressibility curve has water within its limits
  pub water_on_curve : (l : List Point) (W : ℕ) → S ≤ solids_limits.most → T (compressibility_sound l) → T (is_on (curve_at l (void_ratio S W))) →
      W ≤ water_limits.most
  water_on_curve l W h sound on = water_bound W h (compressibility_ranged l (void_ratio S W) sound on).most
