-- What reading a curve needs of its points.
use Rattle.std.specs.Prelude.{ℕ, ◌+◌, ◌≤◌, ◌<◌, get_or, List}
use Rattle.laws.specs.Segment.{OneWay}
use Rattle.numbers.specs.Interpolation.{distance}
use Rattle.rules.specs.Curve.{points}
use Rattle.quantities.specs.Quantities.{stress_limits, void_limits}

-- the abscissas go one way, the ordinates do not fall, and no number is out of range (no conductivity passes the greatest stress)
pub record Smooth (count : ℕ) (xs ys : List ℕ) : Type 0 where
  pub one_way : OneWay (points count xs ys)
  pub apart : (i : ℕ) → i + 1 < count → 0 < distance (get_or xs i 0) (get_or xs (i + 1) 0)
  pub higher : (i : ℕ) → i + 1 < count → get_or ys i 0 ≤ get_or ys (i + 1) 0
  pub abscissa_most : (i : ℕ) → i < count → get_or xs i 0 ≤ void_limits.most
  pub ordinate_most : (i : ℕ) → i < count → get_or ys i 0 ≤ stress_limits.most
