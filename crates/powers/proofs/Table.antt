-- Powers of two as a list, and its rule at each place. The source's table is this list, which antt computes.
use Prim.Native.Nat.{ℕ, zero, suc, ◌+◌, ◌^◌, ◌<◌}
use native.Mathlib.Nat.{add-zero, zero-add, add-suc, suc-add, le_of_suc-le-suc, not-suc-le-zero}
use lib.ListN.{get_or}
use mathlib.Core.List.{List, [], ◌∷◌}
use mathlib.Core.Path.{◌≡◌, sym, ap, ◌∙◌}

-- n powers of two from 2 ^ i up
abbrev pub powers_from : ℕ → ℕ → List ℕ
powers_from zero i = []
powers_from (suc n) i = 2 ^ i ∷ powers_from n (suc i)

power_from : (n i k : ℕ) → k < n → get_or (powers_from n i) k 0 ≡ 2 ^ (i + k)
power_from zero i k h = absurd (not-suc-le-zero h)
power_from (suc n) i zero h = ap (λ (j : ℕ). 2 ^ j) (sym (add-zero i))
power_from (suc n) i (suc k) h =
    power_from n (suc i) k (le_of_suc-le-suc h) ∙ ap (λ (j : ℕ). 2 ^ j) (suc-add i k ∙ sym (add-suc i k))

-- the entry at k of the first n powers
pub power_at : (n k : ℕ) → k < n → get_or (powers_from n 0) k 0 ≡ 2 ^ k
power_at n k h = power_from n 0 k h ∙ ap (λ (j : ℕ). 2 ^ j) (zero-add k)
