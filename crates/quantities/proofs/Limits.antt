-- The limits of a kind, as tests of them say.
use Prim.Native.Nat.{ℕ, zero, suc, ◌≤◌, ◌<◌, ◌^◌}
use native.Mathlib.Omega.{arith}
use lib.Dec.{T, leb, eqb, leb→le, lit<}
use borrow.Author.Tests.{le-leb, lt-leb, ne_eqb}
use mathlib.Core.Bool.{Bool, true, false}
use mathlib.Core.Path.{◌≡◌, refl, sym, ◌∙◌}
use lib.IntN.{ℤ, pos, negsuc, nat_abs}
use lib.Signed.{◌≤ℤ◌, ◌<ℤ◌}
use Rattle.numbers.proofs.Interval.{within-cut, within-mul, within_pos}
use Rattle.numbers.proofs.Searches.{both, passed}
use Rattle.numbers.proofs.Signed.{signed}
use Rattle.numbers.specs.Interval.{Within}
use Rattle.quantities.specs.Quantities.{within, within_ℤ, from◌to◌, stress_limits, void_limits, level_limits, clock_limits, head, pressure, pressure_of, most_head_pressure}
use Rattle.quantities.specs.Tested.{tested}
use Rattle.quantities.specs.declared.quantity.Limits.{Limits}
use Rattle.std.specs.Prelude.{if◌then◌else◌, Some, None}
use Rattle.std.proofs.lemmas.Option.{none-some}

module _ (limits : Limits) (n : ℕ) where
  pub inside : limits.least ≤ n → n ≤ limits.most → within limits n ≡ true
  unfolding within
  inside h k = rw (le-leb limits.least n h, le-leb n limits.most k)

  pub too_small : n < limits.least → within limits n ≡ false
  unfolding within
  too_small h = rw (lt-leb limits.least n h)

  pub too_large : limits.least ≤ n → limits.most < n → within limits n ≡ false
  unfolding within
  too_large h k = rw (le-leb limits.least n h, lt-leb n limits.most k)

  pub within_parts : T (within limits n) → (limits.least ≤ n) × (n ≤ limits.most)
  unfolding within
  within_parts t =
      let (l, m) = both (leb limits.least n) (leb n limits.most) t in
      (leb→le limits.least n l, leb→le n limits.most m)

  -- a number within limits below 2^63 fits a signed one
  pub kept_small : limits.most < 2 ^ 63 → within limits n ≡ true → n < 2 ^ 63
  kept_small few e = omega (arith, within_parts (passed e))

-- 0 alone keeps the limits from 0 to 0
pub only_zero : (n : ℕ) → eqb n 0 ≡ within (from 0 to 0) n
only_zero zero = sym (inside (from 0 to 0) 0 (omega arith) (omega arith))
only_zero (suc n) =
    ne_eqb (suc n) 0 (λ e. omega arith) ∙ sym (too_large (from 0 to 0) (suc n) (omega arith) (omega arith))

-- a signed number keeps the limits just where it is not negative and its value keeps them
pub inside_signed : (limits : Limits) (z : ℤ) → pos limits.least ≤ℤ z → z ≤ℤ pos limits.most → within_ℤ limits z ≡ true
unfolding within_ℤ
inside_signed limits (pos n) h k = inside limits n (omega signed) (omega signed)
inside_signed limits (negsuc n) h k = absurd h.le

pub negative : (limits : Limits) (z : ℤ) → z <ℤ pos 0 → within_ℤ limits z ≡ false
unfolding within_ℤ
negative limits (pos n) h = absurd (omega signed)
negative limits (negsuc n) h = refl

pub not_negative : (limits : Limits) (z : ℤ) → pos 0 ≤ℤ z → within_ℤ limits z ≡ within limits (nat_abs z)
unfolding within_ℤ
not_negative limits (pos n) h = refl
not_negative limits (negsuc n) h = absurd h.le

pub too_large_signed : (limits : Limits) (z : ℤ) → limits.least ≡ 0 → pos limits.most <ℤ z → within_ℤ limits z ≡ false
unfolding within_ℤ
too_large_signed limits (pos n) e h = too_large limits n (omega arith) (omega signed)
too_large_signed limits (negsuc n) e h = absurd h.lt

-- what the answer of a constructor tells of its number
module _ {A : Type 0} (limits : Limits) (n : ℕ) (value : A) where
  pub tested_some : {x : A} → Some x ≡ tested limits n value → (within limits n ≡ true) × (x ≡ value)
  tested_some {x} e = go (within limits n) e
    where
      go : (b : Bool) → Some x ≡ (if b then Some value else None) → (b ≡ true) × (x ≡ value)
      go true e = (refl, cc)
      go false e = absurd (none-some x (sym e))

  pub tested_none : None ≡ tested limits n value → within limits n ≡ false
  tested_none e = go (within limits n) e
    where
      go : (b : Bool) → None ≡ (if b then Some value else None) → b ≡ false
      go true e = absurd (none-some value e)
      go false e = refl

-- the pressure of a head between two levels is in range
pub pressure-within : {h : ℤ} → Within h level_limits.most → Within (pressure_of (head h)).0 most_head_pressure
unfolding pressure_of
pressure-within {h} w = within-cut (lit< tt) (within-mul w (within_pos 981))
