-- Curves: points, and straight lines between them, rounded down from the first point.
-- On the compressibility curve the abscissa is the void ratio and the ordinate the effective stress, on the conductivity
-- curve the void ratio and the conductivity. The load table has points of this form too, time and load; `Load` reads it.
use Rattle.std.specs.Prelude.{ℕ, suc, ◌+◌, ◌-◌, ◌*◌, ◌%◌, max, min, leb, ltb, get_or, Bool, true, false, ◌&&◌, List, [], ◌∷◌}
use Rattle.numbers.specs.Rounding.{ceil}
use Rattle.numbers.specs.Interpolation.{distance, share}
use Rattle.numbers.specs.Arrays.{tabulate}
use Rattle.numbers.specs.Lists.{all, neighbours}
use Rattle.quantities.specs.Quantities.{within, stress_limits, void_limits, conductivity_limits}
use Rattle.quantities.specs.Quantities.{CurveValue}
use Rattle.std.specs.Option.{unwrap_or}
use Rattle.std.specs.Prelude.{None, Some, is_some}

pub record Point : Type 0 where
  pub abscissa : ℕ
  pub ordinate : ℕ

abbrev pub point : ℕ → ℕ → Point
point abscissa ordinate = record { abscissa = abscissa; ordinate = ordinate }

-- the first points of two arrays
unfoldable pub points : ℕ → List ℕ → List ℕ → List Point
unfolding tabulate
points count abscissas ordinates = tabulate count (λ i. point (get_or abscissas i 0) (get_or ordinates i 0))

-- x lies on the segment from a to b, its ends included
unfoldable pub spans : Point → Point → ℕ → Bool
spans a b x = leb (min a.abscissa b.abscissa) x && leb x (max a.abscissa b.abscissa)

-- the ordinate at x on the segment from a to b
unfoldable pub interpolated : Point → Point → ℕ → ℕ
unfolding share
interpolated a b x = a.ordinate + share (b.ordinate - a.ordinate) (distance a.abscissa x) (distance a.abscissa b.abscissa)

-- what its division leaves
unfoldable pub interpolation_remainder : Point → Point → ℕ → ℕ
interpolation_remainder a b x = (b.ordinate - a.ordinate) * distance a.abscissa x % distance a.abscissa b.abscissa

-- what a curve gives at x; outside its end points x is off the curve
unfoldable pub curve_at : List Point → ℕ → CurveValue
unfolding spans interpolated
curve_at [] x = None
curve_at (a ∷ []) x = None
curve_at (a ∷ b ∷ rest) x = elim (spans a b x) [ true ↦ Some (interpolated a b x) | false ↦ curve_at (b ∷ rest) x ]

-- the first segment that spans x, counted from 0, as `curve_at` finds it
unfoldable pub segment_at : List Point → ℕ → ℕ
unfolding spans
segment_at [] x = 0
segment_at (a ∷ []) x = 0
segment_at (a ∷ b ∷ rest) x = elim (spans a b x) [ true ↦ 0 | false ↦ suc (segment_at (b ∷ rest) x) ]

-- what the interpolation on it leaves
unfoldable pub curve_remainder : List Point → ℕ → ℕ
unfolding spans interpolation_remainder
curve_remainder [] x = 0
curve_remainder (a ∷ []) x = 0
curve_remainder (a ∷ b ∷ rest) x = elim (spans a b x) [ true ↦ interpolation_remainder a b x | false ↦ curve_remainder (b ∷ rest) x ]

unfoldable pub is_on : CurveValue → Bool
is_on value = is_some value

-- the value on the curve, 0 off it
unfoldable pub value_of : CurveValue → ℕ
value_of value = unwrap_or value 0

-- stress strictly rises and void ratio strictly falls
unfoldable pub falling : List Point → Bool
unfolding neighbours
falling curve = neighbours (λ a b. ltb a.ordinate b.ordinate && ltb b.abscissa a.abscissa) curve

-- the compressibility curve, with its limits
unfoldable pub compressibility_sound : List Point → Bool
unfolding all within falling
compressibility_sound curve =
    all (λ p. within void_limits p.abscissa && within stress_limits p.ordinate) curve && falling curve

-- every point of the first curve has a void ratio on the second
unfoldable pub covers : (conductivity compressibility : List Point) → Bool
unfolding all is_on curve_at
covers conductivity compressibility = all (λ p. is_on (curve_at conductivity p.abscissa)) compressibility

-- void ratio strictly rises and conductivity never falls
unfoldable pub rising : List Point → Bool
unfolding neighbours
rising curve = neighbours (λ a b. ltb a.abscissa b.abscissa && leb a.ordinate b.ordinate) curve

-- the conductivity curve, with its limits; it covers the first
unfoldable pub conductivity_sound : (conductivity compressibility : List Point) → Bool
unfolding all within rising covers
conductivity_sound conductivity compressibility =
    all (λ p. within void_limits p.abscissa && within conductivity_limits p.ordinate) conductivity &&
    rising conductivity && covers conductivity compressibility

-- G: the largest ceil(stress rise / void fall) of the compressibility curve's segments
unfoldable pub curve_steepness : List Point → ℕ
unfolding ceil
curve_steepness [] = 0
curve_steepness (a ∷ []) = 0
curve_steepness (a ∷ b ∷ rest) = max (ceil (b.ordinate - a.ordinate) (a.abscissa - b.abscissa)) (curve_steepness (b ∷ rest))
