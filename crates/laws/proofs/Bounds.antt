-- An element is on a falling curve just where its water lies between two heights.
use Prim.Native.Nat.{ℕ, ◌+◌, ◌-◌, ◌*◌, ◌≤◌, ◌<◌}
use native.Mathlib.Nat.{div-lt_iff_lt-mul, mul-le-mul, mul-pos}
use native.Mathlib.Omega.{arith}
use lib.Dec.{T, leb, leb→le, le→leb, lit<}
use lib.IntN.{ℤ, pos, negsuc}
use lib.ListN.{length}
use lib.Signed.{le_z}
use mathlib.Core.Bool.{◌&&◌}
use mathlib.Core.List.{List}
use mathlib.Core.Logic.{◌↔◌}
use mathlib.Core.Path.{◌≡◌, refl}
use Rattle.numbers.specs.Rounding.{floor}
use Rattle.numbers.proofs.Division.{le_floor, ceil_le}
use Rattle.numbers.proofs.Searches.{both, joined, same_test}
use Rattle.rules.specs.Curve.{Point, is_on, falling}
use Rattle.rules.specs.Layer.{skeleton_of, void_ratio, effective_stress}
use Rattle.quantities.specs.Quantities.{void_limits, solids_limits, water_limits, void_unit}
use Rattle.rules.specs.Step.{on_curve}
use Rattle.rules.proofs.Falling.{first_abscissa}
use Rattle.laws.proofs.Rising.{last_abscissa, falling_on}
use Rattle.laws.specs.Bounds.{lowest_water, highest_water}

-- both are within the limits of water
pub lowest_most : (S v : ℕ) → S ≤ solids_limits.most → v ≤ void_limits.most → lowest_water S v ≤ water_limits.most
unfolding lowest_water
lowest_most S v h k = (ceil_le {b = void_unit} (lit< tt) (v * S) water_limits.most).1 (mul-le-mul k h)

pub highest_most : (S u : ℕ) → 0 < S → S ≤ solids_limits.most → u ≤ void_limits.most → highest_water S u ≤ water_limits.most
unfolding highest_water
highest_most S u p h k =
    let product : (u + 1) * S ≤ (void_limits.most + 1) * solids_limits.most = mul-le-mul {n₁ = u + 1} {m₁ = S} {n₂ = void_limits.most + 1} {m₂ = solids_limits.most} (omega arith) h in
    let below : (floor ((u + 1) * S - 1) void_unit < water_limits.most + 1) ↔ ((u + 1) * S - 1 < (water_limits.most + 1) * void_unit) = div-lt_iff_lt-mul (lit< tt) in
    omega (arith, below.1 (omega (arith, mul-pos {m = u + 1} {n = S} (omega arith) p)))

module _ (S : ℕ) (solid : 0 < S) (W : ℕ) where
  -- the void ratio reaches v just where the water reaches the lowest
  pub lowest_water_lem : (v : ℕ) → (v ≤ void_ratio S W) ↔ (lowest_water S v ≤ W)
  unfolding void_ratio lowest_water
  lowest_water_lem v =
      let f = le_floor solid v (W * void_unit) in
      let c = ceil_le {b = void_unit} (lit< tt) (v * S) W in
      (λ h. c.1 (f.0 h), λ h. f.1 (c.0 h))

  -- the void ratio does not pass u just where the water does not pass the highest
  pub highest_water_lem : (u : ℕ) → (void_ratio S W ≤ u) ↔ (W ≤ highest_water S u)
  unfolding void_ratio highest_water
  highest_water_lem u =
      let f : (floor (W * void_unit) S < u + 1) ↔ (W * void_unit < (u + 1) * S) = div-lt_iff_lt-mul solid in
      let c = le_floor {b = void_unit} (lit< tt) W ((u + 1) * S - 1) in
      (λ h. c.1 (omega (arith, f.0 (omega arith))), λ h. omega (arith, f.1 (omega (arith, c.0 h))))

module _ (l : List Point) (f : T (falling l)) (two : 2 ≤ length l) (S : ℕ) (solid : 0 < S) where
  -- an element is on a falling curve just where its water lies between the lowest and the highest
  pub water_bounds : (W : ℕ) →
      is_on (effective_stress (skeleton_of l) S W) ≡ leb (lowest_water S (last_abscissa l)) W && leb W (highest_water S (first_abscissa l))
  unfolding effective_stress
  water_bounds W =
      let low = lowest_water S (last_abscissa l) in
      let high = highest_water S (first_abscissa l) in
      let on = falling_on l (void_ratio S W) f two in
      let below = lowest_water_lem S solid W (last_abscissa l) in
      let above = highest_water_lem S solid W (first_abscissa l) in
      same_test (is_on (effective_stress (skeleton_of l) S W)) (leb low W && leb W high)
      (λ t. let (v, u) = on.0 t in joined (leb low W) (leb W high) (le→leb low W (below.0 v)) (le→leb W high (above.0 u)))
      (λ t. let (v, u) = both (leb low W) (leb W high) t in on.1 (below.1 (leb→le low W v), above.1 (leb→le W high u)))

  -- the same for a water height that may be negative
  pub on_curve_bounds : (W : ℤ) →
      on_curve (skeleton_of l) S W ≡ le_z (pos (lowest_water S (last_abscissa l))) W && le_z W (pos (highest_water S (first_abscissa l)))
  unfolding on_curve
  on_curve_bounds (pos W) = water_bounds W
  on_curve_bounds (negsuc W) = refl
