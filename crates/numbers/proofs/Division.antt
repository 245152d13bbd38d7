-- The laws of floor, ceil and cut: quotients and remainders by a positive number.
use Prim.Native.Nat.{ℕ, zero, suc, ◌+◌, ◌-◌, ◌*◌, ◌%◌, ◌≤◌, ◌<◌}
use native.Mathlib.Nat.{le_refl, le_trans, le_of_suc-le-suc, mod-lt, mod-le, zero-mod, div-add-mod', div-le_self}
use native.Mathlib.Nat.{div-mul-le_self, div-eq_of_lt, le-div_iff_mul-le, div-lt_iff_lt-mul}
use native.Mathlib.Omega.{arith}
use mathlib.Core.Logic.{◌↔◌}
use mathlib.Core.Path.{◌≡◌, refl, sym, ◌∙◌}
use lib.IntN.{ℤ, pos, negsuc, nat_abs, ◌+ℤ◌, ◌*ℤ◌}
use lib.Signed.{◌≤ℤ◌}
use Rattle.numbers.specs.Rounding.{floor, ceil, cut, remainder}
use Rattle.numbers.specs.Integers.{up, down}
use Rattle.numbers.proofs.Signed.{signed, one_sided, add_parts, up_neg, down_neg, up-mul, down-mul, up-cut, down-cut}
use Rattle.numbers.proofs.Signed.{nat_abs_parts, nat_abs_quot, nat_abs_rem}

module _ {b : ℕ} (h : 0 < b) where
  -- ---- floor

  -- the dividend is the floor times the divisor, and a remainder below the divisor
  pub floor-remainder : (a : ℕ) → (a ≡ floor a b * b + a % b) × (a % b < b)
  floor-remainder a = (sym (div-add-mod' a b), mod-lt a h)

  -- the floor is the greatest quotient that does not pass the dividend
  pub le_floor : (q a : ℕ) → (q ≤ floor a b) ↔ (q * b ≤ a)
  le_floor q a = le-div_iff_mul-le h

  -- the floor is monotone in the dividend
  pub floor_mono : (a c : ℕ) → a ≤ c → floor a b ≤ floor c b
  floor_mono a c k = (le_floor (floor a b) c).1 (le_trans (div-mul-le_self a b) k)

  -- ---- ceil

  -- the ceil is the least quotient that reaches the dividend
  pub ceil_le : (a q : ℕ) → (ceil a b ≤ q) ↔ (a ≤ q * b)
  unfolding ceil
  ceil_le a q = (λ k. omega (arith, below.0 (omega arith)), λ k. le_of_suc-le-suc (below.1 (omega arith)))
    where
      below : (floor (a + (b - 1)) b < suc q) ↔ (a + (b - 1) < suc q * b)
      below = div-lt_iff_lt-mul h

  -- the ceil times the divisor reaches the dividend
  pub ceil_reaches : (a : ℕ) → a ≤ ceil a b * b
  ceil_reaches a = (ceil_le a (ceil a b)).0 (le_refl (ceil a b))

  -- and passes it by less than the divisor
  pub ceil_below : (a : ℕ) → ceil a b * b < a + b
  unfolding ceil
  ceil_below a = omega (arith, div-mul-le_self (a + (b - 1)) b)

  -- what reaches the dividend, and passes it by less than the divisor, is the ceil
  pub ceil_is : (a q : ℕ) → (a ≤ q * b) × (q * b < a + b) → q ≡ ceil a b
  unfolding ceil
  ceil_is a q k = omega (arith, (ceil_le a q).1 k.0, (le_floor q (a + (b - 1))).1 (omega arith))

  -- the ceil is monotone in the dividend
  pub ceil_mono : (a c : ℕ) → a ≤ c → ceil a b ≤ ceil c b
  ceil_mono a c k = (ceil_le a (ceil c b)).1 (le_trans k (ceil_reaches c))

  -- the ceil of a positive number is positive
  pub ceil_pos : (a : ℕ) → 0 < a → 0 < ceil a b
  ceil_pos a k = positive (ceil a b) (ceil_reaches a)
    where
      positive : (q : ℕ) → a ≤ q * b → 0 < q
      positive zero r = omega arith
      positive (suc q) r = omega arith

-- ---- cut and its remainder

-- the part up of a remainder
pub up-remainder : (z : ℤ) (b : ℕ) → up (remainder z b) ≡ up z % b
up-remainder (pos a) b = refl
up-remainder (negsuc a) b = up_neg (pos (suc a % b)) ∙ sym (zero-mod b)

-- the part down of a remainder
pub down-remainder : (z : ℤ) (b : ℕ) → down (remainder z b) ≡ down z % b
down-remainder (pos a) b = sym (zero-mod b)
down-remainder (negsuc a) b = down_neg (pos (suc a % b))

-- the absolute value of a cut is the floor of the absolute value
pub nat_abs_cut : (z : ℤ) (b : ℕ) → nat_abs (cut z b) ≡ floor (nat_abs z) b
nat_abs_cut z b = nat_abs_quot z (pos b)

-- the absolute value of a remainder is the remainder of the absolute value
pub nat_abs_remainder : (z : ℤ) (b : ℕ) → nat_abs (remainder z b) ≡ nat_abs z % b
nat_abs_remainder z b = nat_abs_rem z (pos b)

-- the cut of what is not negative is not negative
pub cut_nonneg : (z : ℤ) (b : ℕ) → pos 0 ≤ℤ z → pos 0 ≤ℤ cut z b
cut_nonneg z b h = omega (signed, down-cut z b, div-le_self (down z) b, one_sided z)

-- the cut of what is not positive is not positive
pub cut_nonpos : (z : ℤ) (b : ℕ) → z ≤ℤ pos 0 → cut z b ≤ℤ pos 0
cut_nonpos z b h = omega (signed, up-cut z b, div-le_self (up z) b, one_sided z)

-- the remainder of what is not negative is not negative
pub remainder_nonneg : (z : ℤ) (b : ℕ) → pos 0 ≤ℤ z → pos 0 ≤ℤ remainder z b
remainder_nonneg z b h = omega (signed, down-remainder z b, mod-le (down z) b, one_sided z)

-- the remainder of what is not positive is not positive
pub remainder_nonpos : (z : ℤ) (b : ℕ) → z ≤ℤ pos 0 → remainder z b ≤ℤ pos 0
remainder_nonpos z b h = omega (signed, up-remainder z b, mod-le (up z) b, one_sided z)

module _ {b : ℕ} (h : 0 < b) where
  -- the dividend is the cut times the divisor, and a remainder smaller than the divisor
  pub cut-remainder : (z : ℤ) → (z ≡ cut z b *ℤ pos b +ℤ remainder z b) × (nat_abs (remainder z b) < b)
  cut-remainder z = (whole, omega (arith, nat_abs_remainder z b, mod-lt (nat_abs z) h))
    where
      whole : z ≡ cut z b *ℤ pos b +ℤ remainder z b
      whole =
          let u : up (cut z b *ℤ pos b) ≡ floor (up z) b * b = rw (up-cut z b) at (up-mul (cut z b) b) in
          let d : down (cut z b *ℤ pos b) ≡ floor (down z) b * b = rw (down-cut z b) at (down-mul (cut z b) b) in
          let s = add_parts (cut z b *ℤ pos b) (remainder z b) in
          omega (signed, up-remainder z b, down-remainder z b, div-add-mod' (up z) b, div-add-mod' (down z) b)

  -- the cut is 0 just where the dividend is smaller than the divisor
  pub cut_zero : (z : ℤ) → (cut z b ≡ pos 0) ↔ (nat_abs z < b)
  cut_zero z = (λ e. omega (arith, below.0 (small e)), λ k. omega (signed, size, nat_abs_parts (cut z b), div-eq_of_lt k))
    where
      size : nat_abs (cut z b) ≡ floor (nat_abs z) b
      size = nat_abs_cut z b

      small : cut z b ≡ pos 0 → floor (nat_abs z) b < 1
      small e = omega (signed, size, nat_abs_parts (cut z b), one_sided (cut z b))

      below : (floor (nat_abs z) b < 1) ↔ (nat_abs z < 1 * b)
      below = div-lt_iff_lt-mul h

  -- the cut is monotone in the dividend
  pub cut_mono : (y z : ℤ) → y ≤ℤ z → cut y b ≤ℤ cut z b
  cut_mono y z k =
      let u = floor_mono h (up y) (up z) (omega (signed, one_sided y, one_sided z)) in
      let d = floor_mono h (down z) (down y) (omega (signed, one_sided y, one_sided z)) in
      omega (signed, up-cut y b, down-cut y b, up-cut z b, down-cut z b)
