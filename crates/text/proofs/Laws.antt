-- Laws of text.
use Prim.Native.Nat.{ℕ, zero, suc, ◌+◌, ◌/◌, ◌%◌, ◌^◌, ◌≤◌, ◌<◌}
use native.Mathlib.Nat.{add-zero, pow-suc}
use native.Mathlib.Numerals.{add-one}
use native.Mathlib.Omega.{arith}
use borrow.Author.Tests.{lt-ltb, le-ltb, ltb-true, ltb-false}
use lib.Dec.{ltb}
use lib.IntN.{ℤ, pos, negsuc, nat_abs}
use lib.ListN.{length, take, get_or, length-append}
use lib.Seq.{length-sets, take-suc}
use lib.Signed.{◌≤ℤ◌, ◌<ℤ◌, lt_z}
use mathlib.Core.Bool.{Bool, true, false}
use mathlib.Core.List.{List, [], ◌∷◌, ◌++◌, append-nil, append_assoc}
use mathlib.Core.Path.{◌≡◌, refl, sym, ap, ◌∙◌}
use mir.Syntax.{w64}
use mir.Val.{SFits, of_z, to_z}
use Rattle.encoding.proofs.Stores.{sets_append}
use Rattle.numbers.proofs.Signed.{le_parts, lt_parts, read_back, lt_z_true, lt_z_false}
use Rattle.text.specs.Text.{digits, decimal, signed_decimal, spaced, row, before, trimmed, Put}

-- ---- digits

-- a number below ten is its own digit
digits_one : (most n : ℕ) → n < 10 → digits (suc most) n ≡ (48 + n) ∷ []
unfolding digits
digits_one most n h = rw (lt-ltb n 10 h, digits)

-- from ten on the last digit stands after those of the tenth
digits_more : (most n : ℕ) → 10 ≤ n → digits (suc most) n ≡ digits most (n / 10) ++ (48 + n % 10) ∷ []
unfolding digits
digits_more most n h = rw (le-ltb n 10 h, digits)

-- there are at most so many
length_digits : (most n : ℕ) → length (digits most n) ≤ most
unfolding digits
length_digits zero n = omega arith
length_digits (suc most) n = go (length_digits most (n / 10)) (ltb n 10) refl
  where
    go : length (digits most (n / 10)) ≤ most → (b : Bool) → ltb n 10 ≡ b → length (digits (suc most) n) ≤ suc most
    go h true e = rw (digits_one most n (ltb-true n 10 e)) (omega arith)
    go h false e = rw (digits_more most n (ltb-false n 10 e)) (simp length-append (omega arith))

-- room for more digits than n has changes nothing
digits_enough : (most n : ℕ) → n < 10 ^ suc most → digits (suc most) n ≡ digits (suc (suc most)) n
digits_enough zero n h = rw (digits_one 0 n h, digits_one 1 n h)
digits_enough (suc most) n h = go (λ k. digits_enough most (n / 10) k) (ltb n 10) refl
  where
    go : (n / 10 < 10 ^ suc most → digits (suc most) (n / 10) ≡ digits (suc (suc most)) (n / 10)) →
        (b : Bool) → ltb n 10 ≡ b → digits (suc (suc most)) n ≡ digits (suc (suc (suc most))) n
    go tenth true e = rw (digits_one (suc most) n (ltb-true n 10 e), digits_one (suc (suc most)) n (ltb-true n 10 e))
    go tenth false e =
        let more = ltb-false n 10 e in
        rw (digits_more (suc most) n more, digits_more (suc (suc most)) n more, tenth (omega (arith, pow-suc 10 (suc most))))

-- ---- numbers of 64 bits

-- at most twenty digits
pub length-decimal : (n : ℕ) → length (decimal n) ≤ 20
unfolding decimal
length-decimal n = length_digits 20 n

-- below ten
pub decimal_one : (n : ℕ) → n < 10 → decimal n ≡ (48 + n) ∷ []
unfolding decimal
decimal_one n h = digits_one 19 n h

-- from ten on
pub decimal_more : (n : ℕ) → 10 ≤ n → n < 2 ^ 64 → decimal n ≡ decimal (n / 10) ++ (48 + n % 10) ∷ []
unfolding decimal
decimal_more n h k = digits_more 19 n h ∙ ap (λ (tenth : List ℕ). tenth ++ (48 + n % 10) ∷ []) (digits_enough 18 (n / 10) (omega arith))

pub decimal_longer : (n : ℕ) → 10 ≤ n → n < 2 ^ 64 → length (decimal n) ≡ length (decimal (n / 10)) + 1
decimal_longer n h k = rw (decimal_more n h k) (length-append (decimal (n / 10)) ((48 + n % 10) ∷ []))

-- ---- signed numbers

pub signed_negative : (z : ℤ) → z <ℤ pos 0 → signed_decimal z ≡ 45 ∷ decimal (nat_abs z)
unfolding signed_decimal
signed_negative (pos n) h = absurd (omega (arith, lt_parts (pos n) (pos 0) h))
signed_negative (negsuc n) h = refl

pub signed_positive : (z : ℤ) → pos 0 ≤ℤ z → signed_decimal z ≡ decimal (nat_abs z)
unfolding signed_decimal
signed_positive (pos n) h = refl
signed_positive (negsuc n) h = absurd (omega (arith, le_parts (pos 0) (negsuc n) h))

-- where the test of the bits says that z is below 0, and where it says that it is not
module _ (z : ℤ) (fits : SFits w64 z) where
  pub signed_negative_tested : lt_z (to_z w64 (of_z w64 z)) (pos 0) ≡ true → signed_decimal z ≡ 45 ∷ decimal (nat_abs z)
  signed_negative_tested e = signed_negative z (lt_z_true z (pos 0) (rw (read_back fits) at e))

  pub signed_positive_tested : lt_z (to_z w64 (of_z w64 z)) (pos 0) ≡ false → signed_decimal z ≡ decimal (nat_abs z)
  signed_positive_tested e = signed_positive z (lt_z_false z (pos 0) (rw (read_back fits) at e))

-- at most a sign and twenty digits
pub length_signed : (z : ℤ) → length (signed_decimal z) ≤ 21
unfolding signed_decimal
length_signed (pos n) = omega (arith, length-decimal n)
length_signed (negsuc n) = omega (arith, length-decimal (suc n))

-- ---- text stored piece by piece

-- two pieces, one after the other
pub put_put : {first second before between after : List ℕ} {at middle next : ℕ} →
    Put first before at between middle → Put second between middle after next → Put (first ++ second) before at after next
put_put {first} {second} {before} {at = at} p q = record {
  stored = q.stored ∙ rw (p.stored, p.passed) (sym (sets_append before at first second));
  passed = simp length-append (omega (arith, p.passed, q.passed));
}

-- an array keeps its length
pub length_put : {text before after : List ℕ} {at next : ℕ} → Put text before at after next → length after ≡ length before
length_put {text} {before} {at = at} p = rw p.stored (length-sets before at text)

-- nothing stored
pub put_nothing : {array : List ℕ} {at : ℕ} → Put [] array at array at
put_nothing {array} {at} = record { stored = refl; passed = sym (add-zero at) }

-- ---- rows

row_snoc : (ns : List ℕ) (n : ℕ) → row (ns ++ n ∷ []) ≡ row ns ++ spaced n
unfolding row
row_snoc [] n = append-nil (spaced n)
row_snoc (m ∷ ns) n = rw (row_snoc ns n) (sym (append_assoc (spaced m) (row ns) (spaced n)))

-- one number more
pub row_more : (ns : List ℕ) (i : ℕ) → i < length ns → row (take (i + 1) ns) ≡ row (take i ns) ++ spaced (get_or ns i 0)
row_more ns i h = rw (add-one i, take-suc ns i 0 h) (row_snoc (take i ns) (get_or ns i 0))

-- ---- zeros at the end

-- a zero at the end is left out
trimmed_zero : (ns : List ℕ) → trimmed (ns ++ 0 ∷ []) ≡ trimmed ns
unfolding trimmed
trimmed_zero [] = refl
trimmed_zero (m ∷ ns) = ap (before m) (trimmed_zero ns)

-- what stands before another number is kept
before_other : (m n : ℕ) (ns : List ℕ) → before m (ns ++ n ∷ []) ≡ m ∷ (ns ++ n ∷ [])
unfolding before
before_other zero n [] = refl
before_other zero n (m ∷ ns) = refl
before_other (suc m) n ns = refl

-- another number at the end is kept, and all before it
trimmed_other : (ns : List ℕ) (n : ℕ) → (n ≡ 0 → ⊥) → trimmed (ns ++ n ∷ []) ≡ ns ++ n ∷ []
unfolding trimmed
trimmed_other [] zero h = absurd (h refl)
trimmed_other [] (suc n) h = refl
trimmed_other (m ∷ ns) n h = ap (before m) (trimmed_other ns n h) ∙ before_other m n ns

-- the first i + 1 numbers, where the last of them is 0, and where it is another
module _ (ns : List ℕ) (i : ℕ) (h : i < length ns) where
  pub trimmed_less : get_or ns i 0 ≡ 0 → trimmed (take (i + 1) ns) ≡ trimmed (take i ns)
  trimmed_less e = rw (add-one i, take-suc ns i 0 h, e) (trimmed_zero (take i ns))

  pub trimmed_all : (get_or ns i 0 ≡ 0 → ⊥) → trimmed (take (i + 1) ns) ≡ take (i + 1) ns
  trimmed_all e = rw (add-one i, take-suc ns i 0 h) (trimmed_other (take i ns) (get_or ns i 0) e)
