-- A float's comparisons with -l and l, for l = n * 2 ^ d, say whether it is finite and at most l in size.
use Prim.Native.Nat.{ℕ, ◌+◌, ◌*◌, ◌^◌, ◌<◌}
use native.Mathlib.Nat.{mul-one}
use native.Mathlib.Omega.{arith}
use borrow.Author.Tests.{ltb-true, ltb-false, lt-ltb, le-leb, lt-leb, eq-eqb, ne_eqb}
use lib.Dec.{T, leb, ltb, eqb}
use lib.Ieee.{Float, nan, inf, fin, up, down, le}
use lib.IntN.{pos}
use mathlib.Core.Bool.{Bool, true, false, ◌&&◌, ◌||◌}
use mathlib.Core.Path.{◌≡◌, refl, sym, ap, ◌∙◌, subst}

-- finite, and at most the limit in size
unfoldable pub size_at_most : ℕ → Float → Bool
size_at_most limit nan = false
size_at_most limit (inf s) = false
size_at_most limit (fin s m e) = leb (m * up e) (limit * down e)

-- of a negative number -a: -b ≤ -a, and -a ≤ b
below_zero : (a b : ℕ) → ((ltb a b || (eqb b a && true)) && (ltb 0 (a + b) || (eqb a b && eqb a 0))) ≡ leb a b
below_zero a b = go (ltb a b) (ltb b a) (ltb 0 (a + b)) refl refl refl
  where
    go : (p q r : Bool) → ltb a b ≡ p → ltb b a ≡ q → ltb 0 (a + b) ≡ r →
        ((ltb a b || (eqb b a && true)) && (ltb 0 (a + b) || (eqb a b && eqb a 0))) ≡ leb a b
    go true q r e f g =
        let h : a < b = ltb-true a b e in simp (e, lt-ltb 0 (a + b) (omega arith), le-leb a b (omega arith))
    go false true r e f g =
        let h : b < a = ltb-true b a f in simp (e, ne_eqb b a (λ x. omega arith), lt-leb a b h)
    go false false true e f g =
        let h = ltb-false a b e in
        let k = ltb-false b a f in
        simp (e, g, eq-eqb b a (omega arith), le-leb a b (omega arith))
    go false false false e f g =
        let h = ltb-false a b e in
        let k = ltb-false b a f in
        let l = ltb-false 0 (a + b) g in
        simp (e, g, eq-eqb b a (omega arith), eq-eqb a b (omega arith), eq-eqb a 0 (omega arith), le-leb a b (omega arith))

-- of a number a that is not negative: -b ≤ a, and a ≤ b
from_zero : (a b : ℕ) → ((ltb 0 (b + a) || (eqb b a && eqb b 0)) && (ltb a b || (eqb a b && true))) ≡ leb a b
from_zero a b = go (ltb a b) (ltb b a) (ltb 0 (b + a)) refl refl refl
  where
    go : (p q r : Bool) → ltb a b ≡ p → ltb b a ≡ q → ltb 0 (b + a) ≡ r →
        ((ltb 0 (b + a) || (eqb b a && eqb b 0)) && (ltb a b || (eqb a b && true))) ≡ leb a b
    go true q r e f g =
        let h : a < b = ltb-true a b e in simp (e, lt-ltb 0 (b + a) (omega arith), le-leb a b (omega arith))
    go false true r e f g =
        let h : b < a = ltb-true b a f in simp (e, lt-ltb 0 (b + a) (omega arith), ne_eqb a b (λ x. omega arith), lt-leb a b h)
    go false false true e f g =
        let h = ltb-false a b e in
        let k = ltb-false b a f in
        simp (e, g, eq-eqb a b (omega arith), le-leb a b (omega arith))
    go false false false e f g =
        let h = ltb-false a b e in
        let k = ltb-false b a f in
        let l = ltb-false 0 (b + a) g in
        simp (e, g, eq-eqb b a (omega arith), eq-eqb a b (omega arith), eq-eqb b 0 (omega arith), le-leb a b (omega arith))

-- the two comparisons
pub compared_with : (n d : ℕ) (x : Float) → (le (fin true n (pos d)) x && le x (fin false n (pos d))) ≡ size_at_most (n * 2 ^ d) x
unfolding le size_at_most
compared_with n d nan = refl
compared_with n d (inf true) = refl
compared_with n d (inf false) = refl
compared_with n d (fin true m e) =
    below_zero (m * up e * 1) (n * 2 ^ d * down e) ∙ ap (λ (a : ℕ). leb a (n * 2 ^ d * down e)) (mul-one (m * up e))
compared_with n d (fin false m e) =
    from_zero (m * up e * 1) (n * 2 ^ d * down e) ∙ ap (λ (a : ℕ). leb a (n * 2 ^ d * down e)) (mul-one (m * up e))

-- as the code makes them, one after the other
pub both_hold : (p q : Bool) {r : Bool} → (p && q) ≡ r → p ≡ true → q ≡ r
both_hold true q e h = e
both_hold false q e h = absurd (subst T (sym h) tt)

pub first_fails : (p q : Bool) {r : Bool} → (p && q) ≡ r → p ≡ false → p ≡ r
first_fails false q e h = e
first_fails true q e h = absurd (subst T h tt)
