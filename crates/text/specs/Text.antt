-- Numbers as text, and text stored in an array.
use Rattle.std.specs.Prelude.{ℕ, zero, suc, ◌+◌, ◌/◌, ◌%◌, ltb, ℤ, pos, negsuc, length, true, false, List, [], ◌∷◌, ◌++◌, ◌≡◌}
use Rattle.std.proofs.lemmas.List.Edits.{sets}

-- the digits of n, the highest first and at most so many
unfoldable pub digits : (most n : ℕ) → List ℕ
digits zero n = []
digits (suc most) n = elim (ltb n 10) [ true ↦ (48 + n) ∷ [] | false ↦ digits most (n / 10) ++ (48 + n % 10) ∷ [] ]

-- a number of 64 bits has at most 20
unfoldable pub decimal : ℕ → List ℕ
unfolding digits
decimal n = digits 20 n

-- a minus sign before what is negative
unfoldable pub signed_decimal : ℤ → List ℕ
unfolding decimal
signed_decimal (pos n) = decimal n
signed_decimal (negsuc n) = 45 ∷ decimal (suc n)

-- a number after a space
unfoldable pub spaced : ℕ → List ℕ
unfolding decimal
spaced n = 32 ∷ decimal n

unfoldable pub signed_spaced : ℤ → List ℕ
unfolding signed_decimal
signed_spaced z = 32 ∷ signed_decimal z

-- numbers, each after a space
unfoldable pub row : List ℕ → List ℕ
unfolding spaced
row [] = []
row (n ∷ ns) = spaced n ++ row ns

-- a number before others; 0 before none is left out
unfoldable pub before : ℕ → List ℕ → List ℕ
before zero [] = []
before zero (m ∷ ms) = zero ∷ m ∷ ms
before (suc n) ms = suc n ∷ ms

-- numbers without the zeros at their end
unfoldable pub trimmed : List ℕ → List ℕ
unfolding before
trimmed [] = []
trimmed (n ∷ ns) = before n (trimmed ns)

-- text stored in an array from a place on, and the place after it
pub record Put (text before : List ℕ) (at : ℕ) (after : List ℕ) (next : ℕ) : Type 0 where
  pub stored : after ≡ sets before at text
  pub passed : next ≡ at + length text
