-- The test of equality of signed numbers, by their bits.
use lib.Dec.{T, eqb, eqb→eq, eqb_refl}
use lib.IntN.{ℤ, pos, negsuc}
use mathlib.Core.Path.{◌≡◌, sym, ap, subst, ◌∙◌}
use mir.Syntax.{w64}
use mir.Val.{SFits, of_z, to_z}
use Rattle.numbers.specs.Integers.{eq_ℤ}
use Rattle.numbers.proofs.Searches.{same_test}
use Rattle.numbers.proofs.Signed.{read_back}

-- the test passes for equal numbers alone
pub eq_ℤ_refl : (a : ℤ) → T (eq_ℤ a a)
eq_ℤ_refl (pos a) = eqb_refl a
eq_ℤ_refl (negsuc a) = eqb_refl a

pub eqℤ→eq : (a b : ℤ) → T (eq_ℤ a b) → a ≡ b
eqℤ→eq (pos a) (pos b) t = ap pos (eqb→eq a b t)
eqℤ→eq (pos a) (negsuc b) t = absurd t
eqℤ→eq (negsuc a) (pos b) t = absurd t
eqℤ→eq (negsuc a) (negsuc b) t = ap negsuc (eqb→eq a b t)

pub eq→eqℤ : (a b : ℤ) → a ≡ b → T (eq_ℤ a b)
eq→eqℤ a b e = subst (λ (z : ℤ). T (eq_ℤ a z)) e (eq_ℤ_refl a)

-- two numbers that fit 64 bits are equal just where their bits are
pub bits_equal : (a b : ℤ) → SFits w64 a → SFits w64 b → eqb (of_z w64 a) (of_z w64 b) ≡ eq_ℤ a b
bits_equal a b h k =
    same_test (eqb (of_z w64 a) (of_z w64 b)) (eq_ℤ a b)
    (λ t. eq→eqℤ a b (sym (read_back h) ∙ ap (to_z w64) (eqb→eq (of_z w64 a) (of_z w64 b) t) ∙ read_back k))
    (λ t. subst (λ (z : ℤ). T (eqb (of_z w64 a) (of_z w64 z))) (eqℤ→eq a b t) (eqb_refl (of_z w64 a)))
