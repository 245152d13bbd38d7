-- Where the water of an element rests: only between the bounds of the curve, and with one height all above it that are on the curve.
use Prim.Native.Nat.{ℕ, suc, ◌-◌, ◌≤◌, ◌<◌}
use native.Mathlib.Nat.{le_refl}
use native.Mathlib.Omega.{arith}
use lib.Dec.{T, leb, leb→le}
use lib.ListN.{get_or}
use mathlib.Core.Bool.{Bool, true, false}
use mathlib.Core.List.{List}
use Rattle.std.specs.Prelude.{None, Some}
use mathlib.Core.Path.{◌≡◌}
use Rattle.laws.specs.Bounds.{lowest_water, highest_water}
use Rattle.laws.proofs.Bounds.{highest_water_lem, water_bounds}
use Rattle.laws.proofs.Index.{points-length}
use Rattle.numbers.proofs.Searches.{failed, both, least_found, least_none}
use Rattle.rules.specs.Curve.{Point, points, compressibility_sound}
use Rattle.rules.specs.Layer.{skeleton_of, effective_stress}
use Rattle.quantities.specs.Quantities.{water_limits}
use Rattle.rules.specs.Start.{at_most, resting_water}
use Rattle.rules.proofs.Resting.{at_most_parts, at_most_mono}
use Rattle.rules.proofs.Sound.{falls_down}
use Rattle.start.proofs.Ends.{first_void, last_void}

-- an element with some water is on the curve, with an effective stress of at most so much
abbrev pub rests_at : (curve : List Point) (S most W : ℕ) → Bool
rests_at curve S most W = at_most (effective_stress (skeleton_of curve) S W) most

module _ (m : ℕ) (void stress : List ℕ) (two : 2 ≤ m) (sound : compressibility_sound (points m void stress) ≡ true) (S : ℕ) (solid : 0 < S)
    (most : ℕ) where
  abbrev curve : List Point
  curve = points m void stress

  abbrev lowest : ℕ
  lowest = lowest_water S (get_or void (m - 1) 0)

  abbrev highest : ℕ
  highest = highest_water S (get_or void 0 0)

  -- what rests lies between the bounds of the curve
  pub rests_between : (W : ℕ) → T (rests_at curve S most W) → (lowest ≤ W) × (W ≤ highest)
  rests_between W t =
      let on = (at_most_parts (effective_stress (skeleton_of curve) S W) most t).0 in
      let bounds = water_bounds curve (falls_down m void stress sound) (rw (points-length m void stress) two) S solid W in
      let (low, high) = both (leb lowest W) (leb W highest) (rw (bounds, last_void m void stress (omega arith), first_void m void stress (omega arith)) at on) in
      (leb→le lowest W low, leb→le W highest high)

  -- below a height that does not rest, none does
  pub none_below : (W : ℕ) → W ≤ highest → rests_at curve S most W ≡ false → (U : ℕ) → U ≤ W → T (rests_at curve S most U) → ⊥
  none_below W h fails U k t =
      let on = (highest_water_lem S solid W (get_or void 0 0)).1 h in
      failed (rests_at curve S most W) fails
      (at_most_mono curve (falls_down m void stress sound) S solid most U W k (rw (first_void m void stress (omega arith)) on) t)

  -- the height that rests while none below it does
  pub rests_least : (W : ℕ) → W ≤ water_limits.most → T (rests_at curve S most W) → ((U : ℕ) → U < W → T (rests_at curve S most U) → ⊥) →
      resting_water (skeleton_of curve) S most ≡ Some W
  unfolding resting_water
  rests_least W h t below = least_found (rests_at curve S most) (suc water_limits.most) 0 W t below (omega arith) (omega arith)

  -- no height rests where the highest does not
  pub rests_nowhere : rests_at curve S most highest ≡ false → resting_water (skeleton_of curve) S most ≡ None
  unfolding resting_water
  rests_nowhere fails =
      least_none (rests_at curve S most) (suc water_limits.most) 0
      (λ U t. none_below highest (le_refl highest) fails U (rests_between U t).1 t)
