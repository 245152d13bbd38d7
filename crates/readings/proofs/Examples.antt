-- Readings by their bits, as the definitions compute them.
use lib.IntN.{pos, negsuc}
use mathlib.Core.Path.{◌≡◌, refl}
use Rattle.floats.specs.Binary32.{at_most, in_units}
use Rattle.quantities.specs.Quantities.{pressure, pressure_of}
use Rattle.readings.specs.Conversion.{exact, of_pressure, of_column}
use Rattle.readings.specs.declared.Converted.TheVariants.{Value}
use Rattle.std.specs.Prelude.{None, Some}

-- both zeros and the smallest float are 0 mPa
zero : of_pressure 0x0000_0000 ≡ Some (Value (exact (pos 0)) (pressure (pos 0)))
unfolding at_most in_units
zero = refl

minus_zero : of_pressure 0x8000_0000 ≡ Some (Value (exact (pos 0)) (pressure (pos 0)))
unfolding at_most in_units
minus_zero = refl

smallest : of_pressure 0x0000_0001 ≡ Some (Value (exact (pos 0)) (pressure (pos 0)))
unfolding at_most in_units
smallest = refl

one : of_pressure 0x3f80_0000 ≡ Some (Value (exact (pos 1_000_000)) (pressure (pos 1_000_000)))
unfolding at_most in_units
one = refl

-- the float next to -98.1 is cut toward zero
minus_98·1 : of_pressure 0xc2c4_3333 ≡ Some (Value (exact (negsuc 98_099_997)) (pressure (negsuc 98_099_997)))
unfolding at_most in_units
minus_98·1 = refl

-- the limit is taken, the float after it is not
limit : of_pressure 0x44fa_0000 ≡ Some (Value (exact (pos 2_000_000_000)) (pressure (pos 2_000_000_000)))
unfolding at_most in_units
limit = refl

past_the_limit : of_pressure 0x44fa_0001 ≡ None
unfolding at_most in_units
past_the_limit = refl

infinity : of_pressure 0x7f80_0000 ≡ None
unfolding at_most in_units
infinity = refl

a_nan : of_pressure 0x7fc0_0000 ≡ None
unfolding at_most in_units
a_nan = refl

-- the float next to 1.27 m
column : of_column 0x3fa2_8f5c ≡ Some (Value (exact (pos 1_269_999_980)) (pressure (pos 12_458_699)))
unfolding at_most in_units pressure_of
column = refl

-- a column is cut twice: 101 nm are 0 mPa, where the reading's own 101.94 nm would be 1
cut_twice : of_column 0x33da_ea1c ≡ Some (Value (exact (pos 101)) (pressure (pos 0)))
unfolding at_most in_units pressure_of
cut_twice = refl

-- the float next to -2.031 m, where one cut gives 19,924,109
minus_2·031 : of_column 0xc001_fbe7 ≡ Some (Value (exact (negsuc 2_030_999_897)) (pressure (negsuc 19_924_107)))
unfolding at_most in_units pressure_of
minus_2·031 = refl

column_limit : of_column 0x4348_0000 ≡ Some (Value (exact (pos 200_000_000_000)) (pressure (pos 1_962_000_000)))
unfolding at_most in_units pressure_of
column_limit = refl

past_the_column_limit : of_column 0x4348_0001 ≡ None
unfolding at_most in_units
past_the_column_limit = refl
