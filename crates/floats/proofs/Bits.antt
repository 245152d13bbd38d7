-- What 32 bits stand for, for every pattern of them, and for every float by its own bits.
use Prim.Native.Nat.{ℕ, zero, suc, ◌+◌, ◌-◌, ◌*◌, ◌/◌, ◌%◌, ◌^◌, ◌≤◌, ◌<◌}
use native.Mathlib.Nat.{mul-le-mul_left, mul-le-mul_right, le_trans, mul_comm, mul_right_comm, le_of_mul-le-mul_right, div-le_of_le-mul}
use native.Mathlib.Omega.{arith}
use borrow.Author.Tests.{ltb-true, ltb-false, leb-true, le-leb, le-ltb, ne_eqb}
use lib.Dec.{T, leb, ltb, eqb, leb→le, lit<, eqb-suc-zero}
use lib.Ieee.{Float, nan, inf, fin, up, down, le, binary32, fits, is_nan, of_fields, of_bits, to_bits, nan_bits}
use lib.Ieee.Bits.{of_bits-to_bits, to_bits-of_bits, nan_bits_is, nan_bits_above}
use lib.Ieee.Exact.{HasValue, odd_sign}
use lib.Ieee.Fits.{and_r, down_pos}
use lib.IntN.{ℤ, pos, nat_abs}
use lib.Pow.{pow_pos, pow_mono}
use mathlib.Core.Bool.{Bool, true, false, not, cond, ◌&&◌}
use mathlib.Core.Path.{◌≡◌, refl, sym, ap, ◌∙◌, subst}
use Rattle.floats.proofs.Comparisons.{size_at_most, compared_with, both_hold, first_fails}
use Rattle.floats.proofs.Quotients.{cut_signed, doubled_halved}
use Rattle.floats.specs.Binary32.{negative, exponent_field, fraction, is_finite, mantissa, power, size, at_most, with_sign, in_units, infinity, plain_bits, float_of}
use Rattle.numbers.specs.Interval.{Within}

-- ---- lib.Ieee's fields are the definition's

field_same : (bits : ℕ) → bits % 2_147_483_648 / 8_388_608 ≡ bits / 8_388_608 % 256
field_same bits = omega arith

pub by_fields : (bits : ℕ) → of_bits binary32 bits ≡ of_fields binary32 (negative bits) (exponent_field bits) (fraction bits)
unfolding of_bits
by_fields bits = ap (λ (x : ℕ). of_fields binary32 (negative bits) x (fraction bits)) (field_same bits)

-- a field below 255: a number
number : (s : Bool) (x t : ℕ) → x < 255 → HasValue (of_fields binary32 s x t) s (cond (eqb x 0) t (8_388_608 + t) * 2 ^ (x - 1)) (2 ^ 149)
unfolding of_fields
number s zero t h = odd_sign 24 s t 0 149
number s (suc x) t h = rw (ne_eqb (suc x) 255 (λ e. omega arith), eqb-suc-zero x, less x) (odd_sign 24 s (8_388_608 + t) x 149)
  where
    less : (x : ℕ) → suc x - 1 ≡ x
    less x = omega arith

-- a finite float has its size, in units of 2 ^ -149
pub finite_value : (bits : ℕ) → exponent_field bits < 255 → HasValue (of_bits binary32 bits) (negative bits) (size bits) (2 ^ 149)
unfolding size mantissa
finite_value bits h =
    subst (λ (x : Float). HasValue x (negative bits) (cond (eqb (exponent_field bits) 0) (fraction bits) (8_388_608 + fraction bits) * 2 ^ power bits) (2 ^ 149))
    (sym (by_fields bits)) (number (negative bits) (exponent_field bits) (fraction bits) h)

-- ---- at most a limit

-- two orders that say the same
same_order : (p q r t : ℕ) → (p ≤ q → r ≤ t) → (r ≤ t → p ≤ q) → leb p q ≡ leb r t
same_order p q r t f g = go (leb p q) (leb r t) refl refl
  where
    go : (u v : Bool) → leb p q ≡ u → leb r t ≡ v → leb p q ≡ leb r t
    go true true e k = e ∙ sym k
    go false false e k = e ∙ sym k
    go true false e k = e ∙ sym (le-leb r t (f (leb-true p q e)))
    go false true e k = le-leb p q (g (leb-true r t k)) ∙ sym k

value_at_most : (s : Bool) (a c limit : ℕ) (x : Float) → 0 < c → HasValue x s a c → size_at_most limit x ≡ leb a (limit * c)
unfolding size_at_most
value_at_most s a c limit nan h v = absurd v
value_at_most s a c limit (inf t) h v = absurd v
value_at_most s a c limit (fin t m e) h v =
    same_order (m * up e) (limit * down e) a (limit * c)
    (λ k. le_of_mul-le-mul_right (rw (v.1, mul_right_comm limit (down e) c) at (mul-le-mul_right c k)) (down_pos e))
    (λ k. le_of_mul-le-mul_right (rw (← v.1, mul_right_comm limit c (down e)) at (mul-le-mul_right (down e) k)) h)

-- a field of 255: an infinity or a NaN
no_number : (limit : ℕ) (s : Bool) (t : ℕ) → size_at_most limit (of_fields binary32 s 255 t) ≡ false
unfolding of_fields size_at_most
no_number limit s t = go (eqb t 0)
  where
    go : (z : Bool) → size_at_most limit (cond z (inf s) nan) ≡ false
    go true = refl
    go false = refl

full : (bits : ℕ) → 255 ≤ exponent_field bits → exponent_field bits ≡ 255
full bits h = omega arith

pub bits_at_most : (limit bits : ℕ) → size_at_most limit (of_bits binary32 bits) ≡ at_most limit bits
unfolding at_most
bits_at_most limit bits = go (is_finite bits) refl
  where
    go : (z : Bool) → is_finite bits ≡ z → size_at_most limit (of_bits binary32 bits) ≡ (is_finite bits && leb (size bits) (limit * 2 ^ 149))
    go true e =
        rw e (value_at_most (negative bits) (size bits) (2 ^ 149) limit (of_bits binary32 bits) (pow_pos 149) (finite_value bits (ltb-true (exponent_field bits) 255 e)))
    go false e =
        rw e
        (ap (size_at_most limit) (by_fields bits ∙ ap (λ (x : ℕ). of_fields binary32 (negative bits) x (fraction bits)) (full bits (ltb-false (exponent_field bits) 255 e))) ∙
        no_number limit (negative bits) (fraction bits))

-- of a float by its own bits
pub float_at_most : (limit : ℕ) (x : Float) → T (fits binary32 x) → size_at_most limit x ≡ at_most limit (to_bits binary32 x)
float_at_most limit x f = ap (size_at_most limit) (sym (of_bits-to_bits binary32 x f)) ∙ bits_at_most limit (to_bits binary32 x)

-- by its comparisons with -l and l, for l = n * 2 ^ d, one after the other
module _ (n d : ℕ) (x : Float) (f : T (fits binary32 x)) where
  tested : (le (fin true n (pos d)) x && le x (fin false n (pos d))) ≡ at_most (n * 2 ^ d) (to_bits binary32 x)
  tested = compared_with n d x ∙ float_at_most (n * 2 ^ d) x f

  pub second_test : le (fin true n (pos d)) x ≡ true → le x (fin false n (pos d)) ≡ at_most (n * 2 ^ d) (to_bits binary32 x)
  second_test e = both_hold _ _ tested e

  pub first_test : le (fin true n (pos d)) x ≡ false → le (fin true n (pos d)) x ≡ at_most (n * 2 ^ d) (to_bits binary32 x)
  first_test e = first_fails _ _ tested e

-- what is at most a limit is no NaN
pub no_nan : (limit : ℕ) (x : Float) → T (fits binary32 x) → T (at_most limit (to_bits binary32 x)) → T (not (is_nan x))
unfolding size_at_most is_nan
no_nan limit x f h = go x (subst T (sym (float_at_most limit x f)) h)
  where
    go : (x : Float) → T (size_at_most limit x) → T (not (is_nan x))
    go nan h = absurd h
    go (inf s) h = tt
    go (fin s m e) h = tt

-- what is at most a limit is at most a greater one
pub at_most_le : (a b bits : ℕ) → a ≤ b → T (at_most a bits) → T (at_most b bits)
unfolding at_most
at_most_le a b bits h t = go (is_finite bits) t
  where
    go : (z : Bool) → T (z && leb (size bits) (a * 2 ^ 149)) → T (z && leb (size bits) (b * 2 ^ 149))
    go true t =
        subst T (sym (le-leb (size bits) (b * 2 ^ 149) (le_trans (leb→le (size bits) (a * 2 ^ 149) t) (mul-le-mul_right (2 ^ 149) h)))) tt
    go false t = absurd t

-- ---- an accepted pattern is a mantissa halved so many times

pub mantissa_lt : (bits : ℕ) → mantissa bits < 2 ^ 24
unfolding mantissa
mantissa_lt bits = go (eqb (exponent_field bits) 0)
  where
    go : (z : Bool) → cond z (fraction bits) (8_388_608 + fraction bits) < 2 ^ 24
    go true = omega arith
    go false = omega arith

-- a size of at most 2,000 needs a field below 150: the power of two of an accepted float, 2 ^ (field - 150), is negative
pub accepted-field : (bits : ℕ) → T (at_most 2_000 bits) → exponent_field bits < 150
unfolding at_most size mantissa
accepted-field bits t = go (ltb (exponent_field bits) 150) refl
  where
    large : (u m p : ℕ) → 0 < u → 8_388_608 ≤ m → u ≤ p → m * p ≤ 2_000 * u → ⊥
    large u m p z h k l = let q = le_trans (mul-le-mul_left 8_388_608 k) (mul-le-mul_right p h) in omega arith

    go : (z : Bool) → ltb (exponent_field bits) 150 ≡ z → exponent_field bits < 150
    go true e = ltb-true (exponent_field bits) 150 e
    go false e =
        let f : 150 ≤ exponent_field bits = ltb-false (exponent_field bits) 150 e in
        let l = leb→le (cond (eqb (exponent_field bits) 0) (fraction bits) (8_388_608 + fraction bits) * 2 ^ power bits) (2_000 * 2 ^ 149) (and_r (is_finite bits) _ t) in
        absurd (large (2 ^ 149) (8_388_608 + fraction bits) (2 ^ power bits) (pow_pos 149) (omega arith) (pow_mono {i = 149} (omega arith)) (rw (ne_eqb (exponent_field bits) 0 (λ x. omega arith)) at l))

pub halved_in_units : (unit bits : ℕ) → exponent_field bits ≤ 150 → in_units unit bits ≡ with_sign (negative bits) (mantissa bits * unit / 2 ^ (149 - power bits))
unfolding in_units size
halved_in_units unit bits h =
    cut_signed (negative bits) (mantissa bits * 2 ^ power bits * unit) (2 ^ 149) ∙
    ap (with_sign (negative bits)) (doubled_halved (mantissa bits) unit (power bits) 149 (omega arith))

-- ---- its value in a unit is at most the limit in that unit

nat_abs_signed : (s : Bool) (n : ℕ) → nat_abs (with_sign s n) ≡ n
nat_abs_signed true zero = refl
nat_abs_signed true (suc n) = refl
nat_abs_signed false n = refl

pub units_within : (limit unit bits : ℕ) → T (at_most limit bits) → Within (in_units unit bits) (limit * unit)
unfolding at_most in_units
units_within limit unit bits t =
    let most = leb→le (size bits) (limit * 2 ^ 149) (and_r (is_finite bits) _ t) in record {
      bound =
          rw (cut_signed (negative bits) (size bits * unit) (2 ^ 149), nat_abs_signed)
          (div-le_of_le-mul (2 ^ 149) (rw (mul_right_comm limit (2 ^ 149) unit, mul_comm (limit * unit) (2 ^ 149)) at (mul-le-mul_right unit most)));
    }

-- ---- a float of 32 bits has these bits again, or both are past every limit

module _ (bits : ℕ) where
  -- they are no NaN's
  pub plain_no_nan : nan_bits binary32 (plain_bits bits) ≡ false
  unfolding plain_bits
  plain_no_nan = nan_bits_above binary32 (plain_bits bits) ∙ go (ltb infinity (bits % 2 ^ 31)) refl
    where
      go : (z : Bool) → ltb infinity (bits % 2 ^ 31) ≡ z → ltb infinity (cond z infinity bits % 2 ^ 31) ≡ false
      go true e = refl
      go false e = e

  module _ (fit : bits < 2 ^ 32) where
    own_bits : to_bits binary32 (float_of bits) ≡ plain_bits bits
    unfolding float_of plain_bits
    own_bits =
        to_bits-of_bits binary32 (plain_bits bits) (few (ltb infinity (bits % 2 ^ 31)))
        (subst (λ (z : Bool). T (not z)) (sym plain_no_nan ∙ nan_bits_is binary32 (plain_bits bits)) tt)
      where
        few : (z : Bool) → cond z infinity bits < 2 ^ 32
        few true = lit< tt
        few false = fit

    -- by what they say: f makes an answer of the value in a unit
    pub float_of_bits : {A : Type 0} (limit unit : ℕ) (f : ℤ → A) (outside : A) →
        cond (at_most limit (to_bits binary32 (float_of bits))) (f (in_units unit (to_bits binary32 (float_of bits)))) outside ≡
        cond (at_most limit bits) (f (in_units unit bits)) outside
    unfolding plain_bits at_most
    float_of_bits {A} limit unit f outside =
        ap (λ (b : ℕ). cond (at_most limit b) (f (in_units unit b)) outside) own_bits ∙ go (ltb infinity (bits % 2 ^ 31)) refl
      where
        beyond : (b : ℕ) → infinity < b % 2 ^ 31 → 255 ≤ exponent_field b
        beyond b h = omega arith

        go : (z : Bool) → ltb infinity (bits % 2 ^ 31) ≡ z →
            cond (at_most limit (cond z infinity bits)) (f (in_units unit (cond z infinity bits))) outside ≡ cond (at_most limit bits) (f (in_units unit bits)) outside
        go true e =
            let past = le-ltb (exponent_field bits) 255 (beyond bits (ltb-true infinity (bits % 2 ^ 31) e)) in
            sym (ap (λ (z : Bool). cond (z && leb (size bits) (limit * 2 ^ 149)) (f (in_units unit bits)) outside) past)
        go false e = refl
