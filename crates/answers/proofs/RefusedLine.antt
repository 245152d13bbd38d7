-- The stores of a refusal's line, and the room for what is written.
use Prim.Native.Nat.{ℕ, suc, ◌+◌, ◌/◌, ◌%◌, ◌≤◌, ◌<◌}
use native.Mathlib.Omega.{arith}
use borrow.Author.Tests.{lt-ltb, le-ltb}
use lib.ListN.{length, drop, get_or, set, length-append}
use lib.Seq.{drop-cons}
use mathlib.Core.List.{List, [], ◌∷◌, ◌++◌}
use mathlib.Core.Path.{◌≡◌, refl}
use Rattle.numbers.specs.Arrays.{overlaid}
use Rattle.rules.specs.Program.{digits, refused_line}

-- "refused" and a space
abbrev pub refused : List ℕ
refused = 114 ∷ 101 ∷ 102 ∷ 117 ∷ 115 ∷ 101 ∷ 100 ∷ 32 ∷ []

-- the line of a number of one digit, and of two
one_digit : (number : ℕ) → number < 10 → refused_line number ≡ refused ++ (48 + number) ∷ 10 ∷ []
unfolding refused_line digits
one_digit number h = rw (lt-ltb number 10 h)

two_digits : (number : ℕ) → 10 ≤ number → refused_line number ≡ refused ++ (48 + number / 10) ∷ (48 + number % 10) ∷ 10 ∷ []
unfolding refused_line digits
two_digits number h = rw (le-ltb number 10 h)

module _ (number : ℕ) (l : List ℕ) (room : 16 ≤ length l) where
  rest : (i : ℕ) → i < 16 → drop i l ≡ get_or l i 0 ∷ drop (suc i) l
  rest i h = drop-cons l i 0 (omega arith)

  -- as it is stored
  pub line_of_10 : number < 10 →
      (set (set (refused ++ drop 8 l) 8 (48 + number)) 9 10 ≡ overlaid (refused_line number) l) × (10 ≡ length (refused_line number))
  unfolding overlaid
  line_of_10 h = rw (one_digit number h, rest 8 (omega arith), rest 9 (omega arith)) (refl, refl)

  pub line_of_11 : 10 ≤ number →
      (set (set (set (refused ++ drop 8 l) 8 (48 + number / 10)) 9 (48 + number % 10)) 10 10 ≡ overlaid (refused_line number) l) ×
      (11 ≡ length (refused_line number))
  unfolding overlaid
  line_of_11 h = rw (two_digits number h, rest 8 (omega arith), rest 9 (omega arith), rest 10 (omega arith)) (refl, refl)

-- what is written fits where it is written
pub written_fits : (bytes buffer out : List ℕ) (size : ℕ) → (out ≡ overlaid bytes buffer) × (size ≡ length bytes) → size ≤ length out
unfolding overlaid
written_fits bytes buffer out size w = rw (w.0, w.1) (omega (arith, length-append bytes (drop (length bytes) buffer)))
