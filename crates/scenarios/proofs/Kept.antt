-- Counting the places that hold the fill, one after the other.
use Prim.Native.Nat.{ℕ, suc, ◌+◌, ◌-◌, ◌<◌, ◌≤◌}
use native.Mathlib.Numerals.{add-one}
use native.Mathlib.Omega.{arith}
use borrow.Author.Tests.{eq-eqb, ne_eqb}
use lib.IntN.{ℤ, pos}
use lib.ListN.{get_or}
use mathlib.Core.Bool.{cond}
use mathlib.Core.List.{List}
use mathlib.Core.Path.{◌≡◌, refl, ◌∙◌}
use mir.Syntax.{w64}
use mir.Val.{SFits, of_z}
use Rattle.numbers.proofs.Equality.{bits_equal}
use Rattle.numbers.specs.Integers.{eq_ℤ}
use Rattle.scenarios.specs.Divisions.{fill, kept}

fill_fits : SFits w64 fill
fill_fits = record { sfits = omega arith }

module _ (buffer : List ℤ) (i : ℕ) where
  module _ (h : i < 129) where
    at : kept (129 - i) i buffer ≡ cond (eq_ℤ (get_or buffer i (pos 0)) fill) 1 0 + kept (129 - (i + 1)) (i + 1) buffer
    unfolding kept
    at =
        let more : 129 - i ≡ suc (129 - (i + 1)) = omega arith in
        rw (more, add-one) refl

    module _ (fits : SFits w64 (get_or buffer i (pos 0))) where
      pub at_fill : of_z w64 (get_or buffer i (pos 0)) ≡ of_z w64 fill → kept (129 - i) i buffer ≡ 1 + kept (129 - (i + 1)) (i + 1) buffer
      at_fill e = at ∙ rw (← bits_equal (get_or buffer i (pos 0)) fill fits fill_fits, eq-eqb _ _ e) refl

      pub at_other : (of_z w64 (get_or buffer i (pos 0)) ≡ of_z w64 fill → ⊥) → kept (129 - i) i buffer ≡ kept (129 - (i + 1)) (i + 1) buffer
      at_other e = at ∙ rw (← bits_equal (get_or buffer i (pos 0)) fill fits fill_fits, ne_eqb _ _ e) (omega arith)

  pub at_end : 129 ≤ i → kept (129 - i) i buffer ≡ 0
  unfolding kept
  at_end h =
      let none : 129 - i ≡ 0 = omega arith in
      rw none refl
