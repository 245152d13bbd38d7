-- A reading made of any 32 bits, a NaN's among them, is what those bits say.
use Prim.Native.Nat.{ℕ, ◌^◌, ◌<◌}
use mathlib.Core.Path.{◌≡◌}
use Rattle.floats.proofs.Bits.{float_of_bits}
use Rattle.floats.specs.Binary32.{float_of}
use Rattle.quantities.specs.Quantities.{head, pressure, pressure_of}
use Rattle.readings.specs.Conversion.{kilopascal, metre, most_pressure, most_column, exact, of_pressure, of_column, conversion}
use Rattle.readings.specs.declared.Converted.TheVariants.{Value}
use Rattle.std.specs.Prelude.{None, Some}
use Rattle.readings.specs.declared.Reading.TheVariants as reading

module _ (bits : ℕ) (fit : bits < 2 ^ 32) where
  pub pressure_of_bits : conversion (reading.Pressure (float_of bits)) ≡ of_pressure bits
  pressure_of_bits = float_of_bits bits fit most_pressure kilopascal (λ z. Some (Value (exact z) (pressure z))) None

  pub column_of_bits : conversion (reading.Column (float_of bits)) ≡ of_column bits
  column_of_bits = float_of_bits bits fit most_column metre (λ z. Some (Value (exact z) (pressure_of (head z)))) None
