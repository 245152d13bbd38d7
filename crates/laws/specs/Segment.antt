-- Curves whose abscissas go one way, up or down, and what is read on a segment.
use Rattle.std.specs.Prelude.{ℕ, suc, ◌-◌, ◌*◌, ◌≤◌, ◌<◌, min, max, pos, ◌-ℤ◌, length, get_or, List, [], ◌∷◌, ◌≡◌}
use Rattle.numbers.specs.Interpolation.{distance}
use Rattle.numbers.specs.Lists.{last_or}
use Rattle.numbers.specs.Quotients.{Divides}
use Rattle.rules.specs.Curve.{Point, point, interpolated, interpolation_remainder}

-- b is a step from a on the way to z: another abscissa, between those of a and z, and an ordinate that is not lower
pub record Onward (a b z : Point) : Type 0 where
  pub apart : 0 < distance a.abscissa b.abscissa
  pub least : min a.abscissa z.abscissa ≤ b.abscissa
  pub most : b.abscissa ≤ max a.abscissa z.abscissa
  pub higher : a.ordinate ≤ b.ordinate

-- every point goes onward to the last
unfoldable pub OneWay : List Point → Type 0
unfolding last_or
OneWay [] = Unit {0}
OneWay (a ∷ []) = Unit {0}
OneWay (a ∷ b ∷ rest) = Onward a b (last_or b rest) × OneWay (b ∷ rest)

-- y is the ordinate at x on the segment from a to b: it rises above a by a quotient, which leaves a remainder that is not negative
pub record OnSegment (a b : Point) (x y : ℕ) : Type 0 where
  pub value : y ≡ interpolated a b x
  pub divides :
      Divides (pos ((b.ordinate - a.ordinate) * distance a.abscissa x)) (distance a.abscissa b.abscissa) (pos y -ℤ pos a.ordinate)
      (pos (interpolation_remainder a b x))

-- y is the ordinate at x on some segment of a curve
pub record OnSomeSegment (curve : List Point) (x y : ℕ) : Type 0 where
  pub segment : ℕ
  pub among : suc segment < length curve
  pub on : OnSegment (get_or curve segment (point 0 0)) (get_or curve (suc segment) (point 0 0)) x y
