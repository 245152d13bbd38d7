-- What the 32 bits of a float say, as IEEE 754 has them: a sign, a field of 8 bits for the exponent, and a fraction of 23.
-- A finite float is a whole number times a power of two: its mantissa times 2 ^ (field - 150), and where the field is 0 times 2 ^ -149.
use Rattle.std.specs.Prelude.{ℕ, ◌+◌, ◌-◌, ◌*◌, ◌/◌, ◌%◌, ◌^◌, leb, ltb, eqb, Float, ℤ, pos, neg_ℤ, Bool, true, false, cond, ◌&&◌}
use Rattle.std.specs.Float.{binary32}
use Rattle.std.specs.Float.Ieee.{of_bits}
use Rattle.numbers.specs.Rounding.{cut}

-- the highest bit is the sign
abbrev pub negative : (bits : ℕ) → Bool
negative bits = leb (2 ^ 31) bits

abbrev pub exponent_field : (bits : ℕ) → ℕ
exponent_field bits = bits / 2 ^ 23 % 256

abbrev pub fraction : (bits : ℕ) → ℕ
fraction bits = bits % 2 ^ 23

-- the greatest field is that of infinities and NaNs
abbrev pub is_finite : (bits : ℕ) → Bool
is_finite bits = ltb (exponent_field bits) 255

-- the whole number: the fraction under a leading 1, which zeros and subnormals, of field 0, do not have
unfoldable pub mantissa : (bits : ℕ) → ℕ
mantissa bits = cond (eqb (exponent_field bits) 0) (fraction bits) (2 ^ 23 + fraction bits)

-- the power of two that it is multiplied by, counted from that of the smallest float, 2 ^ -149, which the fields 0 and 1 share
abbrev pub power : (bits : ℕ) → ℕ
power bits = exponent_field bits - 1

-- the size of a finite float: so many times the smallest, 2 ^ -149
unfoldable pub size : (bits : ℕ) → ℕ
unfolding mantissa
size bits = mantissa bits * 2 ^ power bits

-- finite, and at most a limit in size
unfoldable pub at_most : (limit bits : ℕ) → Bool
unfolding size
at_most limit bits = is_finite bits && leb (size bits) (limit * 2 ^ 149)

-- a number with a sign; 0 has none
abbrev pub with_sign : (negative : Bool) → ℕ → ℤ
with_sign true n = neg_ℤ (pos n)
with_sign false n = pos n

-- the exact value of a finite float in a unit of which its own has so many, cut toward zero
unfoldable pub in_units : (unit bits : ℕ) → ℤ
unfolding size
in_units unit bits = cut (with_sign (negative bits) (size bits * unit)) (2 ^ 149)

-- the bits of an infinity
abbrev pub infinity : ℕ
infinity = 255 * 2 ^ 23

-- the float of 32 bits. A NaN has none of its own in this language, and an infinity, which is no more finite, stands for it.
unfoldable pub plain_bits : (bits : ℕ) → ℕ
plain_bits bits = cond (ltb infinity (bits % 2 ^ 31)) infinity bits

unfoldable pub float_of : (bits : ℕ) → Float
unfolding plain_bits
float_of bits = of_bits binary32 (plain_bits bits)
