-- What a sound curve or table says of its points, by index.
use Prim.Native.Nat.{ℕ, ◌+◌, ◌-◌, ◌≤◌, ◌<◌, max}
use native.Mathlib.Omega.{arith}
use lib.Dec.{T, leb, ltb, leb→le, ltb→lt}
use borrow.Author.Tests.{leb-true, leb-false}
use lib.ListN.{get_or, drop}
use mathlib.Core.Bool.{Bool, true, false, ◌&&◌}
use mathlib.Core.List.{List}
use mathlib.Core.Path.{◌≡◌, refl}
use Rattle.numbers.specs.Lists.{all}
use Rattle.numbers.specs.Rounding.{ceil}
use Rattle.numbers.proofs.Searches.{passed, both}
use Rattle.rules.specs.Curve.{Point, points, falling, rising, covers, compressibility_sound, conductivity_sound, curve_steepness}
use Rattle.quantities.specs.Quantities.{within, stress_limits, void_limits, conductivity_limits}
use Rattle.quantities.proofs.Limits.{within_parts}
use Rattle.rules.proofs.Points.{from_segment, from_point, from_end, from_last, all_at, neighbours_at}

-- the points of a compressibility curve
pub record Compressible (n : ℕ) (void stress : List ℕ) : Type 0 where
  pub void_low : (i : ℕ) → i < n → void_limits.least ≤ get_or void i 0
  pub void_high : (i : ℕ) → i < n → get_or void i 0 ≤ void_limits.most
  pub stress_high : (i : ℕ) → i < n → get_or stress i 0 ≤ stress_limits.most
  pub void_falls : (i : ℕ) → i + 1 < n → get_or void (i + 1) 0 < get_or void i 0
  pub stress_rises : (i : ℕ) → i + 1 < n → get_or stress i 0 < get_or stress (i + 1) 0

module _ (n : ℕ) (void stress : List ℕ) (sound : compressibility_sound (points n void stress) ≡ true) where
  kept : T (all (λ p. within void_limits p.abscissa && within stress_limits p.ordinate) (points n void stress)) × T (falling (points n void stress))
  unfolding compressibility_sound
  kept = both (all (λ p. within void_limits p.abscissa && within stress_limits p.ordinate) (points n void stress)) (falling (points n void stress)) (passed sound)

  point_limits : (i : ℕ) → i < n → ((void_limits.least ≤ get_or void i 0) × (get_or void i 0 ≤ void_limits.most)) × (get_or stress i 0 ≤ stress_limits.most)
  point_limits i h =
      let (v, s) = both (within void_limits (get_or void i 0)) (within stress_limits (get_or stress i 0)) (all_at n void stress _ kept.0 i h) in
      (within_parts void_limits (get_or void i 0) v, (within_parts stress_limits (get_or stress i 0) s).1)

  segment : (i : ℕ) → i + 1 < n → (get_or stress i 0 < get_or stress (i + 1) 0) × (get_or void (i + 1) 0 < get_or void i 0)
  unfolding falling
  segment i h =
      let (s, v) = both (ltb (get_or stress i 0) (get_or stress (i + 1) 0)) (ltb (get_or void (i + 1) 0) (get_or void i 0)) (neighbours_at n void stress _ kept.1 i h) in
      (ltb→lt (get_or stress i 0) (get_or stress (i + 1) 0) s, ltb→lt (get_or void (i + 1) 0) (get_or void i 0) v)

  pub compressible : Compressible n void stress
  compressible = record {
    void_low = λ i h. (point_limits i h).0.0;
    void_high = λ i h. (point_limits i h).0.1;
    stress_high = λ i h. (point_limits i h).1;
    void_falls = λ i h. (segment i h).1;
    stress_rises = λ i h. (segment i h).0;
  }

  pub falls_down : T (falling (points n void stress))
  falls_down = kept.1

-- the points of a conductivity curve
pub record Conductive (n : ℕ) (void conductivity : List ℕ) : Type 0 where
  pub void_high : (i : ℕ) → i < n → get_or void i 0 ≤ void_limits.most
  pub conductivity_low : (i : ℕ) → i < n → conductivity_limits.least ≤ get_or conductivity i 0
  pub conductivity_high : (i : ℕ) → i < n → get_or conductivity i 0 ≤ conductivity_limits.most
  pub void_rises : (i : ℕ) → i + 1 < n → get_or void i 0 < get_or void (i + 1) 0
  pub never_falls : (i : ℕ) → i + 1 < n → get_or conductivity i 0 ≤ get_or conductivity (i + 1) 0

module _ (n : ℕ) (void conductivity : List ℕ) (first : List Point) (sound : conductivity_sound (points n void conductivity) first ≡ true) where
  abbrev keeps : Point → Bool
  keeps p = within void_limits p.abscissa && within conductivity_limits p.ordinate

  parts : T (all keeps (points n void conductivity) && rising (points n void conductivity)) × T (covers (points n void conductivity) first)
  unfolding conductivity_sound
  parts =
      both (all keeps (points n void conductivity) && rising (points n void conductivity)) (covers (points n void conductivity) first)
      (passed sound)

  kept_and_rising : T (all keeps (points n void conductivity)) × T (rising (points n void conductivity))
  kept_and_rising = both (all keeps (points n void conductivity)) (rising (points n void conductivity)) parts.0

  pub rises_up : T (rising (points n void conductivity))
  rises_up = kept_and_rising.1

  pub covers_first : T (covers (points n void conductivity) first)
  covers_first = parts.1

  conductive_limits : (i : ℕ) → i < n → (get_or void i 0 ≤ void_limits.most) × ((conductivity_limits.least ≤ get_or conductivity i 0) × (get_or conductivity i 0 ≤ conductivity_limits.most))
  conductive_limits i h =
      let (v, k) = both (within void_limits (get_or void i 0)) (within conductivity_limits (get_or conductivity i 0)) (all_at n void conductivity keeps kept_and_rising.0 i h) in
      ((within_parts void_limits (get_or void i 0) v).1, within_parts conductivity_limits (get_or conductivity i 0) k)

  conductive_segment : (i : ℕ) → i + 1 < n → (get_or void i 0 < get_or void (i + 1) 0) × (get_or conductivity i 0 ≤ get_or conductivity (i + 1) 0)
  unfolding rising
  conductive_segment i h =
      let (v, k) = both (ltb (get_or void i 0) (get_or void (i + 1) 0)) (leb (get_or conductivity i 0) (get_or conductivity (i + 1) 0)) (neighbours_at n void conductivity _ rises_up i h) in
      (ltb→lt (get_or void i 0) (get_or void (i + 1) 0) v, leb→le (get_or conductivity i 0) (get_or conductivity (i + 1) 0) k)

  pub conductive : Conductive n void conductivity
  conductive = record {
    void_high = λ i h. (conductive_limits i h).0;
    conductivity_low = λ i h. (conductive_limits i h).1.0;
    conductivity_high = λ i h. (conductive_limits i h).1.1;
    void_rises = λ i h. (conductive_segment i h).0;
    never_falls = λ i h. (conductive_segment i h).1;
  }

-- steepness from an index on
module _ (n : ℕ) (xs ys : List ℕ) (i : ℕ) where
  pub steepness_step : i + 1 < n → curve_steepness (drop i (points n xs ys)) ≡
      max (ceil (get_or ys (i + 1) 0 - get_or ys i 0) (get_or xs i 0 - get_or xs (i + 1) 0)) (curve_steepness (drop (i + 1) (points n xs ys)))
  unfolding curve_steepness
  steepness_step h = rw (from_segment n xs ys i h, from_point n xs ys (i + 1) h)

  pub steepness_end : n ≤ i + 1 → curve_steepness (drop i (points n xs ys)) ≡ 0
  unfolding curve_steepness
  steepness_end h = go (leb n i) refl
    where
      go : (c : Bool) → leb n i ≡ c → curve_steepness (drop i (points n xs ys)) ≡ 0
      go true e = rw (from_end n xs ys i (leb-true n i e))
      go false e = let k = leb-false n i e in rw (from_last n xs ys i (omega arith))
