-- The pressure that a reading is keeps the limits of a stress in size.
use Prim.Native.Nat.{ℕ}
use native.Mathlib.Omega.{arith}
use lib.Dec.{T, lit≤}
use lib.Ieee.{binary32, to_bits}
use mathlib.Core.Bool.{Bool, true, false, cond}
use mathlib.Core.Path.{◌≡◌, refl, sym, subst}
use Rattle.floats.proofs.Bits.{units_within}
use Rattle.floats.specs.Binary32.{at_most}
use Rattle.numbers.proofs.Interval.{within_le}
use Rattle.numbers.specs.Interval.{Within}
use Rattle.quantities.proofs.Limits.{pressure-within}
use Rattle.quantities.specs.Quantities.{stress_limits}
use Rattle.readings.specs.Conversion.{kilopascal, metre, most_pressure, most_column, pressure_in, conversion}
use Rattle.readings.specs.declared.Converted.TheVariants.{Value}
use Rattle.std.specs.Prelude.{None, Some}
use Rattle.readings.specs.declared.Exact.{Exact}
use Rattle.quantities.specs.declared.Pressure.{Pressure}
use Rattle.readings.specs.declared.Reading.{Reading}
use Rattle.readings.specs.declared.Reading.TheVariants as reading

-- where a test passes the value is in range, and where it fails there is none
tested : (most : ℕ) (test : Bool) (value : Exact) (held : Pressure) → (test ≡ true → Within held.0 most) →
    Within (pressure_in (cond test (Some (Value value held)) None)) most
tested most true value held h = h refl
tested most false value held h = record { bound = omega arith }

pub reading_within : (r : Reading) → Within (pressure_in (conversion r)) stress_limits.most
reading_within (reading.Pressure x) =
    let bits = to_bits binary32 x in
    tested stress_limits.most (at_most most_pressure bits) _ _ (λ e. units_within most_pressure kilopascal bits (subst T (sym e) tt))
reading_within (reading.Column x) =
    let bits = to_bits binary32 x in
    tested stress_limits.most (at_most most_column bits) _ _
    (λ e. within_le (pressure-within (units_within most_column metre bits (subst T (sym e) tt))) (lit≤ tt))
reading_within reading.Missing = record { bound = lit≤ tt }
