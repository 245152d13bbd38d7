-- What IEEE 754 says of the 32 bits of a float, by its sign S, its exponent's field E and its fraction T. lib.Ieee has it as a value:
-- `HasValue x S a c` says that x is finite, has the sign S and is a / c in size.
use Rattle.std.specs.Prelude.{ℕ, ◌+◌, ◌*◌, ◌^◌, ◌<◌, T, ◌≡◌}
use Rattle.std.specs.Float.{binary32, nan, inf}
use Rattle.std.specs.Float.Ieee.{of_bits}
use Rattle.std.specs.Float.Ieee.Exact.{HasValue}
use Rattle.floats.specs.Binary32.{negative, exponent_field, fraction, is_finite, size}

pub record Ieee754 (bits : ℕ) : Type 0 where
  -- E = 0, zeros and subnormals: 2 ^ -126 * (T / 2 ^ 23)
  pub subnormal : exponent_field bits ≡ 0 → HasValue (of_bits binary32 bits) (negative bits) (fraction bits) (2 ^ 126 * 2 ^ 23)
  -- E from 1 to 254: 2 ^ (E - 127) * (1 + T / 2 ^ 23)
  pub normal : 0 < exponent_field bits → exponent_field bits < 255 →
      HasValue (of_bits binary32 bits) (negative bits) (2 ^ exponent_field bits * (2 ^ 23 + fraction bits)) (2 ^ 127 * 2 ^ 23)
  -- E = 255: an infinity, or no number
  pub infinite : exponent_field bits ≡ 255 → fraction bits ≡ 0 → of_bits binary32 bits ≡ inf (negative bits)
  pub no_number : exponent_field bits ≡ 255 → (fraction bits ≡ 0 → ⊥) → of_bits binary32 bits ≡ nan
  -- so a finite float is what the definitions say: its mantissa times a power of two, in units of 2 ^ -149
  pub value : T (is_finite bits) → HasValue (of_bits binary32 bits) (negative bits) (size bits) (2 ^ 149)
