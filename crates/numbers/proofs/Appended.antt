-- The laws of lists one after the other, and of those that all have one length.
use Prim.Native.Nat.{ℕ, zero, suc, ◌+◌, ◌*◌, ◌≤◌, ◌<◌}
use native.Mathlib.Nat.{le_of_suc-le-suc, not-suc-le-zero, add-zero, mul-zero, mul-suc, zero-add}
use native.Mathlib.Omega.{arith}
use lib.ListN.{length, take, drop, length-append}
use lib.Seq.{take-add, drop-drop}
use mathlib.Core.List.{List, [], ◌∷◌, ◌++◌, append-nil, append_assoc}
use mathlib.Core.Path.{◌≡◌, sym, ap, ◌∙◌}
use Rattle.numbers.specs.Arrays.{tabulate}
use Rattle.numbers.specs.Bytes.{field}
use Rattle.numbers.specs.Lists.{appended}
use Rattle.numbers.proofs.LittleEndian.{field_front, field_past}

-- one list more comes last
pub appended_more : {A : Type 0} (ls : List (List A)) (l : List A) → appended (ls ++ (l ∷ [])) ≡ appended ls ++ l
unfolding appended
appended_more [] l = append-nil l
appended_more {A} (first ∷ ls) l =
    ap (λ (rest : List A). first ++ rest) (appended_more ls l) ∙ sym (append_assoc first (appended ls) l)

module _ (width : ℕ) where
  -- so many lists of one length
  pub length-appended : {A : Type 0} (n : ℕ) (f : ℕ → List A) → ((i : ℕ) → i < n → length (f i) ≡ width) →
      length (appended (tabulate n f)) ≡ width * n
  unfolding appended tabulate
  length-appended zero f h = sym (mul-zero width)
  length-appended (suc n) f h =
      length-append (f 0) (appended (tabulate n (λ i. f (suc i)))) ∙
      rw (h 0 (omega arith), length-appended n (λ i. f (suc i)) (λ i k. h (suc i) (omega arith)), mul-suc width n) (omega arith)

  -- a field of the list at an index
  pub field-appended : (n : ℕ) (f : ℕ → List ℕ) → ((i : ℕ) → i < n → length (f i) ≡ width) → (size offset i : ℕ) → i < n →
      offset + size ≤ width → field size (width * i + offset) (appended (tabulate n f)) ≡ field size offset (f i)
  unfolding appended tabulate
  field-appended zero f h size offset i k fits = absurd (not-suc-le-zero k)
  field-appended (suc n) f h size offset zero k fits =
      rw (mul-zero width, zero-add offset)
      (field_front size offset (f 0) (appended (tabulate n (λ i. f (suc i)))) (omega (arith, h 0 (omega arith))))
  field-appended (suc n) f h size offset (suc i) k fits =
      let first = h 0 (omega arith) in
      let place : width * suc i + offset ≡ length (f 0) + (width * i + offset) = rw (mul-suc width i, first) (omega arith) in
      rw place
      (field_past size (width * i + offset) (f 0) (appended (tabulate n (λ i. f (suc i)))) ∙
      field-appended n (λ i. f (suc i)) (λ i k. h (suc i) (omega arith)) size offset i (le_of_suc-le-suc k) fits)

  -- parts of a list that follow each other are one part of it
  pub appended_parts : {A : Type 0} (n : ℕ) (f : ℕ → List A) (offset : ℕ) (l : List A) →
      ((i : ℕ) → i < n → f i ≡ take width (drop (offset + width * i) l)) → appended (tabulate n f) ≡ take (width * n) (drop offset l)
  unfolding appended tabulate
  appended_parts zero f offset l h = rw (mul-zero width)
  appended_parts {A} (suc n) f offset l h =
      let first : f 0 ≡ take width (drop offset l) = rw (mul-zero width, add-zero offset) at (h 0 (omega arith)) in
      let rest : appended (tabulate n (λ i. f (suc i))) ≡ take (width * n) (drop (offset + width) l) =
      appended_parts n (λ i. f (suc i)) (offset + width) l
      (λ i k.
      let place : offset + width * suc i ≡ offset + width + width * i = rw (mul-suc width i) (omega arith) in
      rw (place) at (h (suc i) (omega arith))) in
      let all : width * suc n ≡ width + width * n = rw (mul-suc width n) (omega arith) in
      rw (first, rest, all, take-add width (width * n) (drop offset l), drop-drop width offset l)
