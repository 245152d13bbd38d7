-- Readings whose value falls, and by at most K for each unit.
use Prim.Native.Nat.{ℕ, ◌+◌, ◌-◌, ◌*◌, ◌≤◌, ◌<◌}
use native.Mathlib.Nat.{mul-le-mul_left}
use native.Mathlib.Omega.{arith}
use lib.Dec.{T}
use mathlib.Core.List.{List}
use Rattle.rules.specs.Curve.{Point, curve_at, is_on, value_of, falling, curve_steepness}
use Rattle.rules.specs.Layer.{skeleton_of, void_ratio, sensitivity, effective_stress}
use Rattle.quantities.specs.Quantities.{CurveValue}
use Rattle.rules.proofs.Falling.{on_from_first, never_rises}
use Rattle.rules.proofs.Resting.{void_ratio_mono}
use Rattle.laws.proofs.Slope.{curve_slope}
use Rattle.laws.proofs.VoidRatio.{void_ratio_slope}

-- from x to y, where both are on, the value falls by nothing to K for each unit
pub record BoundedFall (reading : ℕ → CurveValue) (K : ℕ) : Type 0 where
  pub falls : (x y : ℕ) → x ≤ y → T (is_on (reading x)) → T (is_on (reading y)) → value_of (reading y) ≤ value_of (reading x)
  pub slope : (x y : ℕ) → x ≤ y → T (is_on (reading x)) → T (is_on (reading y)) →
      value_of (reading x) ≤ value_of (reading y) + K * (y - x)

-- a falling curve falls by at most its steepness
pub curve_fall : (l : List Point) → T (falling l) → BoundedFall (curve_at l) (curve_steepness l)
curve_fall l f = record {
  falls = λ x y h t u. (never_rises l x y f h (on_from_first l y f u).0 t).1;
  slope = λ x y h t u. curve_slope l x y f h t u;
}

-- what falls by at most K for each unit of void ratio falls by at most c times K for each nanometre of an element's water
pub water_fall : (reading : ℕ → CurveValue) (K : ℕ) → BoundedFall reading K → (S : ℕ) → 0 < S →
    BoundedFall (λ W. reading (void_ratio S W)) (sensitivity S * K)
water_fall reading K fall S solid = record {
  falls = λ U W h t u. fall.falls (void_ratio S U) (void_ratio S W) (void_ratio_mono S solid U W h) t u;
  slope = λ U W h t u.
      let grows = void_ratio_mono S solid U W h in
      let slope = fall.slope (void_ratio S U) (void_ratio S W) grows t u in
      let way : void_ratio S W - void_ratio S U ≤ sensitivity S * (W - U) = omega (arith, void_ratio_slope S solid U W h) in
      omega (arith, mul-le-mul_left K way);
}

-- so does the effective stress of an element, with the curve's steepness for K, where the curve falls
pub stress_fall : (l : List Point) → T (falling l) → (S : ℕ) → 0 < S → BoundedFall (effective_stress (skeleton_of l) S) (sensitivity S * curve_steepness l)
unfolding effective_stress
stress_fall l f S solid = water_fall (curve_at l) (curve_steepness l) (curve_fall l f) S solid
