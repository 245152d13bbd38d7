-- What a reading of a curve says of the segment that it names.
use Rattle.std.specs.Prelude.{ℕ, ◌+◌, get_or, List, ◌≡◌}
use Rattle.laws.specs.Segment.{OnSegment}
use Rattle.quantities.specs.Quantities.{CurveValue}
use Rattle.std.specs.Prelude.{Some}
use Rattle.rules.specs.Curve.{Point, point}

-- point i of two arrays
abbrev pub point_in : (xs ys : List ℕ) → ℕ → Point
point_in xs ys i = point (get_or xs i 0) (get_or ys i 0)

-- a value on the curve is the one at x on that segment, by the law of quotient and remainder
abbrev pub ReadOn : (xs ys : List ℕ) (x segment : ℕ) → CurveValue → Type 0
ReadOn xs ys x segment value = (y : ℕ) → value ≡ Some y → OnSegment (point_in xs ys segment) (point_in xs ys (segment + 1)) x y
