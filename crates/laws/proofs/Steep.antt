-- The steepness of a sound curve is in range.
use Prim.Native.Nat.{◌-◌, ◌≤◌, ◌<◌}
use native.Mathlib.Omega.{arith}
use lib.Dec.{T, leb, ltb, leb→le, ltb→lt}
use lib.ListN.{length}
use mathlib.Core.Bool.{Bool, ◌&&◌}
use mathlib.Core.List.{List, [], ◌∷◌}
use Rattle.numbers.proofs.Division.{ceil_pos, ceil_le}
use Rattle.numbers.specs.Lists.{all, neighbours}
use Rattle.numbers.proofs.Searches.{both}
use Rattle.rules.specs.Curve.{Point, falling, compressibility_sound, curve_steepness}
use Rattle.quantities.specs.Quantities.{within, void_limits, stress_limits}

-- one segment of a falling curve
segment_falls : (a b : Point) (rest : List Point) → T (falling (a ∷ b ∷ rest)) →
    (a.ordinate < b.ordinate) × (b.abscissa < a.abscissa) × T (falling (b ∷ rest))
unfolding falling neighbours
segment_falls a b rest f =
    let (both_ways, more) = both (ltb a.ordinate b.ordinate && ltb b.abscissa a.abscissa) (falling (b ∷ rest)) f in
    let (up, down) = both (ltb a.ordinate b.ordinate) (ltb b.abscissa a.abscissa) both_ways in
    (ltb→lt a.ordinate b.ordinate up, ltb→lt b.abscissa a.abscissa down, more)

-- a falling curve has a segment that falls
pub steep_positive : (l : List Point) → T (falling l) → 2 ≤ length l → 0 < curve_steepness l
unfolding curve_steepness
steep_positive [] f two = absurd (omega arith)
steep_positive (a ∷ []) f two = absurd (omega arith)
steep_positive (a ∷ b ∷ rest) f two =
    let (up, down, more) = segment_falls a b rest f in
    omega (arith, ceil_pos {b = a.abscissa - b.abscissa} (omega arith) (b.ordinate - a.ordinate) (omega arith))

abbrev in_limits : Point → Bool
in_limits p = within void_limits p.abscissa && within stress_limits p.ordinate

-- a stress within its limits rises by at most the greatest over any fall
steep_within : (l : List Point) → T (all in_limits l) → T (falling l) → curve_steepness l ≤ stress_limits.most
unfolding curve_steepness all within
steep_within [] t f = omega arith
steep_within (a ∷ []) t f = omega arith
steep_within (a ∷ b ∷ rest) t f =
    let (up, down, more) = segment_falls a b rest f in
    let later = (both (in_limits a) (all in_limits (b ∷ rest)) t).1 in
    let (first, others) = both (in_limits b) (all in_limits rest) later in
    let kept = (both (within void_limits b.abscissa) (within stress_limits b.ordinate) first).1 in
    let most = leb→le b.ordinate stress_limits.most (both (leb 0 b.ordinate) (leb b.ordinate stress_limits.most) kept).1 in
    omega (
      arith,
      (ceil_le {b = a.abscissa - b.abscissa} (omega arith) (b.ordinate - a.ordinate) stress_limits.most).1 (omega arith),
      steep_within (b ∷ rest) later more,
    )

pub steep_most : (l : List Point) → T (compressibility_sound l) → curve_steepness l ≤ stress_limits.most
unfolding compressibility_sound
steep_most l sound = let (t, f) = both (all in_limits l) (falling l) sound in steep_within l t f
