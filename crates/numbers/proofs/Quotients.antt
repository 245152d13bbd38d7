-- A quotient that is rounded so leaves what is promised, and one quotient alone does.
use Prim.Native.Nat.{ℕ, ◌+◌, ◌*◌, ◌/◌, ◌%◌, ◌<◌, min}
use lib.IntN.{ℤ, pos, negsuc, nat_abs}
use lib.Signed.{quot_z, rem_z, ◌<ℤ◌}
use mathlib.Core.Path.{◌≡◌, refl, ap}
use Rattle.std.proofs.lemmas.Grind.{div_ceil_times}
use Rattle.numbers.specs.Rounding.{floor, ceil, cut, remainder}
use Rattle.numbers.proofs.Division.{ceil_is, ceil_reaches, ceil_below, cut-remainder, remainder_nonneg, remainder_nonpos}
use Rattle.numbers.proofs.Signed.{signed}
use Rattle.numbers.specs.Quotients.{Divides, Floored, Ceiled, Cut, Left}

-- the law, of every number and every positive divisor
pub cut_divides : (a : ℤ) (b : ℕ) → 0 < b → Divides a b (cut a b) (remainder a b)
cut_divides a b h =
    let (remains, smaller) = cut-remainder h a in
    record { remains = remains; smaller = smaller; not_negative = remainder_nonneg a b; not_positive = remainder_nonpos a b }

pub floored : (a b : ℕ) → 0 < b → Floored a b (floor a b)
floored a b h = record { quotient = refl; divides = cut_divides (pos a) b h }

-- in natural numbers
pub floored_remains : {a b q : ℕ} → Floored a b q → a ≡ q * b + a % b
floored_remains f = ap nat_abs f.divides.remains

pub ceiled : (a b : ℕ) → 0 < b → Ceiled a b (ceil a b)
ceiled a b h = record { quotient = refl; reaches = ceil_reaches h a; below = ceil_below h a }

-- a quotient and one more where the division leaves something
pub ceiled_up : {a b q : ℕ} → 0 < b → q ≡ a / b + min 1 (a % b) → Ceiled a b q
ceiled_up {a} {b} {q} h e = rw (e, ceil_is h a _ (div_ceil_times a b h)) (ceiled a b h)

-- the machine's quotient by a positive number is the cut, and its remainder what the cut leaves
pub is_cut : (a b : ℤ) → pos 0 <ℤ b → Cut a (nat_abs b) (quot_z a b)
is_cut a (pos n) h = record { quotient = refl; divides = cut_divides a n (omega (signed, h)) }
is_cut a (negsuc n) h = absurd h.lt

pub is_left : (a b : ℤ) → pos 0 <ℤ b → Left a (nat_abs b) (rem_z a b)
is_left a (pos n) h = record { remainder_is = refl; divides = cut_divides a n (omega (signed, h)) }
is_left a (negsuc n) h = absurd h.lt
