-- How bounds on integers go through sums, products and quotients.
use Prim.Native.Nat.{ℕ, ◌+◌, ◌*◌, ◌^◌, ◌≤◌, ◌<◌}
use native.Mathlib.Nat.{le_refl, le_trans, mul-le-mul, div-le_self, mod-le}
use native.Mathlib.Omega.{arith}
use lib.Dec.{T, ltb, ltb→lt}
use lib.IntN.{ℤ, pos, neg_ℤ, nat_abs, ◌+ℤ◌, ◌-ℤ◌, ◌*ℤ◌}
use lib.Signed.{quot_z, rem_z}
use mir.Syntax.{w64}
use mir.Val.{SFits}
use Rattle.numbers.specs.Rounding.{floor, cut}
use Rattle.numbers.specs.Integers.{up, down}
use Rattle.numbers.proofs.Signed.{signed, one_sided, add_parts, nat_abs_parts, nat_abs_neg, nat_abs_mul, nat_abs_quot, nat_abs_rem}
use Rattle.numbers.proofs.Division.{floor_mono, nat_abs_cut}
use Rattle.numbers.specs.Interval.{Within}

-- a bound, of the parts
pub within_parts : (z : ℤ) (n : ℕ) → Within z n → up z + down z ≤ n
within_parts z n h = omega (arith, nat_abs_parts z)

-- a bound, from the parts
pub parts_within : (z : ℤ) (n : ℕ) → up z + down z ≤ n → Within z n
parts_within z n h = record { bound = omega (arith, nat_abs_parts z) }

-- what `omega` needs to read and to prove bounds on integers
pub ruleset intervals = (signed, within_parts, parts_within)

-- a bound holds for every larger number
pub within_le : {z : ℤ} {m n : ℕ} → Within z m → m ≤ n → Within z n
within_le h k = record { bound = le_trans h.bound k }

-- a natural number lies within itself
pub within_pos : (n : ℕ) → Within (pos n) n
within_pos n = record { bound = le_refl n }

-- -z lies within the bound of z
pub within_neg : {z : ℤ} {n : ℕ} → Within z n → Within (neg_ℤ z) n
within_neg {z} h = record { bound = rw (nat_abs_neg z) h.bound }

-- a sum lies within the sum of the bounds
pub within-add : {a b : ℤ} {m n : ℕ} → Within a m → Within b n → Within (a +ℤ b) (m + n)
within-add {a} {b} h k = omega (intervals, add_parts a b, one_sided (a +ℤ b))

-- and so does a difference
pub within-sub : {a b : ℤ} {m n : ℕ} → Within a m → Within b n → Within (a -ℤ b) (m + n)
within-sub h k = within-add h (within_neg k)

-- a product lies within the product of the bounds
pub within-mul : {a b : ℤ} {m n : ℕ} → Within a m → Within b n → Within (a *ℤ b) (m * n)
within-mul {a} {b} h k = record { bound = rw (nat_abs_mul a b) (mul-le-mul h.bound k.bound) }

-- a quotient lies within the dividend's bound
pub within_quot : {z : ℤ} {n : ℕ} (d : ℤ) → Within z n → Within (quot_z z d) n
within_quot {z} d h = record { bound = rw (nat_abs_quot z d) (le_trans (div-le_self (nat_abs z) (nat_abs d)) h.bound) }

-- and so does what the quotient leaves
pub within_rem : {z : ℤ} {n : ℕ} (d : ℤ) → Within z n → Within (rem_z z d) n
within_rem {z} d h = record { bound = rw (nat_abs_rem z d) (le_trans (mod-le (nat_abs z) (nat_abs d)) h.bound) }

-- and, cut by a positive number, within the floor of that bound
pub within-cut : {z : ℤ} {n b : ℕ} → 0 < b → Within z n → Within (cut z b) (floor n b)
within-cut {z} {n} {b} p h = record { bound = rw (nat_abs_cut z b) (floor_mono p (nat_abs z) n h.bound) }

-- what lies within a literal below 2 ^ 63 fits an i64: `within_fits tt h`
pub within_fits : {z : ℤ} {n : ℕ} → T (ltb n (2 ^ 63)) → Within z n → SFits w64 z
within_fits {z} {n} t h = omega (intervals, ltb→lt n (2 ^ 63) t)
