-- The least water at rest: the height that passes the test where the one below it fails.
use Prim.Native.Nat.{ℕ, suc, ◌*◌, ◌≤◌, ◌<◌}
use native.Mathlib.Omega.{arith}
use lib.Dec.{T, leb→le, le→leb}
use mathlib.Core.Bool.{false}
use mathlib.Core.List.{List}
use Rattle.std.specs.Prelude.{None, Some}
use mathlib.Core.Path.{◌≡◌}
use Rattle.numbers.proofs.Division.{floor_mono}
use Rattle.numbers.proofs.Searches.{failed, least_found, least_none}
use Rattle.rules.specs.Curve.{Point, curve_at, is_on, value_of, falling}
use Rattle.rules.specs.Layer.{skeleton_of, void_ratio, effective_stress}
use Rattle.quantities.specs.Quantities.{void_unit, water_limits}
use Rattle.rules.specs.Start.{at_most, resting_water}
use Rattle.quantities.specs.Quantities.{CurveValue}
use Rattle.rules.proofs.Falling.{first_abscissa, first_ordinate, on_from_first, never_rises}

-- what passes the test is on the curve, and its stress is not above the limit
pub at_most_parts : (v : CurveValue) (stress : ℕ) → T (at_most v stress) → T (is_on v) × (value_of v ≤ stress)
unfolding at_most is_on value_of
at_most_parts (Some value) stress t = (tt, omega (arith, leb→le))
at_most_parts None stress t = absurd t

-- a lower stress passes the test too
pub at_most_lower : (v w : CurveValue) (stress : ℕ) → T (is_on w) → value_of w ≤ value_of v → T (at_most v stress) → T (at_most w stress)
unfolding at_most is_on value_of
at_most_lower (Some a) (Some b) stress on h t = omega (arith, leb→le, le→leb)
at_most_lower (Some a) None stress on h t = absurd on
at_most_lower None w stress on h t = absurd t

-- more water, more void ratio
pub void_ratio_mono : (S : ℕ) → 0 < S → (U W : ℕ) → U ≤ W → void_ratio S U ≤ void_ratio S W
unfolding void_ratio
void_ratio_mono S h U W k = floor_mono h (U * void_unit) (W * void_unit) (omega arith)

module _ (curve : List Point) (falls : T (falling curve)) (S : ℕ) (solid : 0 < S) (stress : ℕ) where
  -- up to the curve's first void ratio, what passes the test passes it with more water too
  pub at_most_mono : (U W : ℕ) → U ≤ W → void_ratio S W ≤ first_abscissa curve →
      T (at_most (effective_stress (skeleton_of curve) S U) stress) → T (at_most (effective_stress (skeleton_of curve) S W) stress)
  unfolding effective_stress
  at_most_mono U W h k t =
      let on = (at_most_parts (curve_at curve (void_ratio S U)) stress t).0 in
      let (on', lower) = never_rises curve (void_ratio S U) (void_ratio S W) falls (void_ratio_mono S solid U W h) k on in
      at_most_lower (curve_at curve (void_ratio S U)) (curve_at curve (void_ratio S W)) stress on' lower t

  pub resting-found : (W : ℕ) → suc W ≤ water_limits.most → void_ratio S W ≤ first_abscissa curve →
      T (at_most (effective_stress (skeleton_of curve) S (suc W)) stress) → at_most (effective_stress (skeleton_of curve) S W) stress ≡ false →
      resting_water (skeleton_of curve) S stress ≡ Some (suc W)
  unfolding resting_water
  resting-found W small on passes fails =
      least_found (λ U. at_most (effective_stress (skeleton_of curve) S U) stress) (suc water_limits.most) 0 (suc W) passes
      (λ U h t. failed (at_most (effective_stress (skeleton_of curve) S W) stress) fails (at_most_mono U W (omega arith) on t))
      (omega arith)
      (omega arith)

  -- no height rests under a stress below the curve's first
  pub resting_none : stress < first_ordinate curve → resting_water (skeleton_of curve) S stress ≡ None
  unfolding resting_water effective_stress
  resting_none h =
      least_none (λ U. at_most (effective_stress (skeleton_of curve) S U) stress) (suc water_limits.most) 0
      (λ U t.
      let (on, low) = at_most_parts (curve_at curve (void_ratio S U)) stress t in
      omega (arith, on_from_first curve (void_ratio S U) falls on))
