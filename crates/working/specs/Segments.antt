-- What is promised of the division on a segment of a curve.
use Rattle.std.specs.Prelude.{ℕ, ◌-◌, ◌*◌, pos, ◌-ℤ◌, List, ◌≡◌}
use Rattle.curves.specs.Named.{point_in}
use Rattle.numbers.specs.Interpolation.{distance}
use Rattle.numbers.specs.Quotients.{Divides}
use Rattle.rules.specs.Curve.{Point, interpolated, interpolation_remainder}
use Rattle.working.specs.declared.CurveReading.{CurveReading}

-- y is the ordinate at x on the segment from a to b, and r what its division leaves, by the law of quotient and remainder
pub record SegmentDivides (a b : Point) (x y r : ℕ) : Type 0 where
  pub value : y ≡ interpolated a b x
  pub leaves : r ≡ interpolation_remainder a b x
  pub divides :
      Divides (pos ((b.ordinate - a.ordinate) * distance a.abscissa x)) (distance a.abscissa b.abscissa) (pos y -ℤ pos a.ordinate) (pos r)

-- so for a reading, on the segment that it names
abbrev pub ReadingDivides : (xs ys : List ℕ) (x : ℕ) → CurveReading → Type 0
ReadingDivides xs ys x reading =
    SegmentDivides (point_in xs ys (reading.segment - 1)) (point_in xs ys reading.segment) x reading.value reading.remainder
