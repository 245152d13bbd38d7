-- Quotients by powers of two: a sign, halvings, and the bound that keeps a mantissa in a unit small.
use Prim.Native.Nat.{ℕ, zero, suc, ◌+◌, ◌-◌, ◌*◌, ◌/◌, ◌^◌, ◌≤◌, ◌<◌}
use native.Mathlib.Nat.{div-eq_of_lt, div-le_self, zero-div, lt_of_le_of_lt, lt_of_lt_of_le, mul_comm, mul_assoc, mul_right_comm, mul-div-mul_right, mul-le-mul_left}
use native.Mathlib.Omega.{arith}
use lib.Pow.{pow-add, pow_pos, pow_mono}
use mathlib.Core.Bool.{Bool, true, false}
use mathlib.Core.Path.{◌≡◌, refl, sym, ap, ◌∙◌}
use Rattle.floats.specs.Binary32.{with_sign}
use Rattle.numbers.specs.Rounding.{cut}

-- equal fractions have equal quotients
same_quotient : (n d p q : ℕ) → 0 < d → 0 < q → n * q ≡ p * d → n / d ≡ p / q
same_quotient n d p q hd hq e =
    sym (mul-div-mul_right n d hq) ∙ ap (λ (x : ℕ). x / (d * q)) e ∙ ap (λ (x : ℕ). p * d / x) (mul_comm d q) ∙ mul-div-mul_right p q hd

-- the cut of a number with a sign is its quotient with that sign
pub cut_signed : (s : Bool) (n d : ℕ) → cut (with_sign s n) d ≡ with_sign s (n / d)
cut_signed true zero d = rw zero-div refl
cut_signed true (suc n) d = refl
cut_signed false n d = refl

-- doubled i times and divided by 2 ^ l is halved l - i times
pub doubled_halved : (m unit i l : ℕ) → i ≤ l → m * 2 ^ i * unit / 2 ^ l ≡ m * unit / 2 ^ (l - i)
doubled_halved m unit i l h =
    same_quotient (m * 2 ^ i * unit) (2 ^ l) (m * unit) (2 ^ (l - i)) (pow_pos l) (pow_pos (l - i))
    (ap (λ (x : ℕ). x * 2 ^ (l - i)) (mul_right_comm m (2 ^ i) unit) ∙ mul_assoc (m * unit) (2 ^ i) (2 ^ (l - i)) ∙
    ap (λ (x : ℕ). m * unit * x) (sym (pow-add 2 i (l - i)) ∙ ap (λ (x : ℕ). 2 ^ x) (whole i l h)))
  where
    whole : (i l : ℕ) → i ≤ l → i + (l - i) ≡ l
    whole i l h = omega arith

module _ (m unit : ℕ) (h : m < 2 ^ 24) (u : unit ≤ 1_000_000_000) where
  -- a mantissa in the smallest unit is below 2 ^ 54, so a table of powers up to 54 is enough
  pub product_lt : m * unit < 2 ^ 54
  product_lt = lt_of_le_of_lt (mul-le-mul_left m u) (bound m h)
    where
      bound : (m : ℕ) → m < 2 ^ 24 → m * 1_000_000_000 < 2 ^ 54
      bound m h = omega arith

  -- nothing is left of it after more than 54 halvings
  pub nothing_left : (k : ℕ) → 54 < k → m * unit / 2 ^ k ≡ 0
  nothing_left k g = div-eq_of_lt (lt_of_lt_of_le product_lt (pow_mono (below k g)))
    where
      below : (k : ℕ) → 54 < k → 54 ≤ k
      below k g = omega arith

  -- halvings keep it below 2 ^ 54
  pub halved_lt : (k : ℕ) → m * unit / 2 ^ k < 2 ^ 54
  halved_lt k = lt_of_le_of_lt (div-le_self (m * unit) (2 ^ k)) product_lt
