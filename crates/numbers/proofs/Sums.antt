-- Laws of sums of lists.
use Prim.Native.Nat.{ℕ, zero, suc, ◌+◌, ◌*◌, ◌≤◌, ◌<◌}
use native.Mathlib.Nat.{add_assoc, zero-add}
use native.Mathlib.Numerals.{add-one}
use native.Mathlib.Omega.{arith}
use mathlib.Core.List.{List, [], ◌∷◌, ◌++◌, map}
use mathlib.Core.Path.{◌≡◌, refl, sym}
use lib.IntN.{ℤ, pos, ◌+ℤ◌, +ℤ_idl, +ℤ_assoc, +ℤ_comm}
use lib.ListN.{length, take, get_or}
use Rattle.numbers.specs.Interval.{Within}
use Rattle.numbers.proofs.Interval.{within_pos, within-add, within_le}
use Rattle.numbers.specs.Sums.{sum}

-- the sum of integers
unfoldable pub total : List ℤ → ℤ
total [] = pos 0
total (z ∷ zs) = z +ℤ total zs

-- the sum of two lists joined
pub sum-append : (xs ys : List ℕ) → sum (xs ++ ys) ≡ sum xs + sum ys
unfolding sum
sum-append [] ys = sym (zero-add (sum ys))
sum-append (x ∷ xs) ys = rw (sum-append xs ys) (sym (add_assoc x (sum xs) (sum ys)))

-- the same for integers
pub total_append : (xs ys : List ℤ) → total (xs ++ ys) ≡ total xs +ℤ total ys
unfolding total
total_append [] ys = sym (+ℤ_idl (total ys))
total_append (x ∷ xs) ys = rw (total_append xs ys) (sym (+ℤ_assoc x (total xs) (total ys)))

-- one element more, as a loop adds it
pub sum_suc : (i : ℕ) (xs : List ℕ) → sum (take (i + 1) xs) ≡ sum (take i xs) + get_or xs i 0
unfolding sum
sum_suc i xs = rw (add-one i) (go i xs)
  where
    go : (i : ℕ) (xs : List ℕ) → sum (take (suc i) xs) ≡ sum (take i xs) + get_or xs i 0
    go zero [] = refl
    go (suc i) [] = refl
    go zero (x ∷ xs) = omega arith
    go (suc i) (x ∷ xs) = omega (arith, go i xs)

-- the same for integers
pub total_suc : (i : ℕ) (zs : List ℤ) → total (take (i + 1) zs) ≡ total (take i zs) +ℤ get_or zs i (pos 0)
unfolding total
total_suc i zs = rw (add-one i) (go i zs)
  where
    go : (i : ℕ) (zs : List ℤ) → total (take (suc i) zs) ≡ total (take i zs) +ℤ get_or zs i (pos 0)
    go zero [] = refl
    go (suc i) [] = refl
    go zero (z ∷ zs) = +ℤ_comm z (pos 0)
    go (suc i) (z ∷ zs) = rw (go i zs) (sym (+ℤ_assoc z (total (take i zs)) (get_or zs i (pos 0))))

-- a bound on each element bounds the sum
pub sum_le : (bound : ℕ) (xs : List ℕ) → ((i : ℕ) → i < length xs → get_or xs i 0 ≤ bound) → sum xs ≤ length xs * bound
unfolding sum
sum_le bound [] h = omega arith
sum_le bound (x ∷ xs) h = omega (arith, h 0 (omega arith), sum_le bound xs (λ i k. h (suc i) (omega arith)))

-- the same for integers
pub total_within : (bound : ℕ) (zs : List ℤ) → ((i : ℕ) → i < length zs → Within (get_or zs i (pos 0)) bound) →
    Within (total zs) (length zs * bound)
unfolding total
total_within bound [] h = within_le (within_pos 0) (omega arith)
total_within bound (z ∷ zs) h =
    within_le (within-add (h 0 (omega arith)) (total_within bound zs (λ i k. h (suc i) (omega arith)))) (omega arith)

-- the sum of natural numbers taken as integers
pub total_pos : (xs : List ℕ) → total (map pos xs) ≡ pos (sum xs)
unfolding sum total
total_pos [] = refl
total_pos (x ∷ xs) = rw (total_pos xs)
