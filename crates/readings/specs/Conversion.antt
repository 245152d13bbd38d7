-- A reading in whole numbers, by the 32 bits of its float.
use Rattle.std.specs.Prelude.{ℕ, ℤ, pos, cond}
use Rattle.std.specs.Float.{binary32}
use Rattle.std.specs.Float.Ieee.{to_bits}
use Rattle.floats.specs.Binary32.{at_most, in_units}
use Rattle.quantities.specs.Quantities.{head, pressure, pressure_of}
use Rattle.readings.specs.declared.Converted.{Converted}
use Rattle.readings.specs.declared.Converted.TheVariants.{Value, Missing}
use Rattle.std.specs.Prelude.{Option, None, Some}
use Rattle.readings.specs.declared.Exact.{Exact}
use Rattle.readings.specs.declared.Reading.{Reading}
use Rattle.readings.specs.declared.Reading.TheVariants as reading

-- millipascals in a kilopascal, nanometres in a metre
abbrev pub kilopascal : ℕ
kilopascal = 1_000_000

abbrev pub metre : ℕ
metre = 1_000_000_000

-- the greatest reading, in kilopascals and in metres
abbrev pub most_pressure : ℕ
most_pressure = 2_000

abbrev pub most_column : ℕ
most_column = 200

abbrev pub exact : ℤ → Exact
exact z = record { 0 = z }

-- a pressure in kilopascals becomes millipascals
abbrev pub of_pressure : (bits : ℕ) → Option Converted
of_pressure bits =
    let millipascals = in_units kilopascal bits in
    cond (at_most most_pressure bits) (Some (Value (exact millipascals) (pressure millipascals))) None

-- a column in metres becomes nanometres, and then a pressure as every head does
abbrev pub of_column : (bits : ℕ) → Option Converted
of_column bits =
    let nanometres = in_units metre bits in
    cond (at_most most_column bits) (Some (Value (exact nanometres) (pressure_of (head nanometres)))) None

-- any reading
abbrev pub conversion : Reading → Option Converted
conversion (reading.Pressure x) = of_pressure (to_bits binary32 x)
conversion (reading.Column x) = of_column (to_bits binary32 x)
conversion reading.Missing = Some Missing

-- the pressure of a reading in whole numbers, 0 of a missing one
abbrev pub pressure_with : Converted → ℤ
pressure_with (Value exact held) = held.0
pressure_with Missing = pos 0

-- that of a converted reading, 0 where there is none
abbrev pub pressure_in : Option Converted → ℤ
pressure_in (Some converted) = pressure_with converted
pressure_in None = pos 0
