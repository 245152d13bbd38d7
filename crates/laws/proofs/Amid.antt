-- What lies between two integers, in whichever order they stand, and the sets that hold all between any two of theirs.
use Prim.Native.Nat.{◌≤◌}
use lib.IntN.{ℤ, pos, negsuc, ◌+ℤ◌}
use lib.Signed.{le_z, ◌≤ℤ◌}
use mathlib.Core.Bool.{Bool, true, false}
use mathlib.Core.Path.{◌≡◌, refl}
use Rattle.numbers.specs.Integers.{up, down}
use Rattle.numbers.proofs.Signed.{signed, add_parts}
use Rattle.laws.specs.Amid.{Between}

-- p added to both sides
raised : {a b : ℤ} (p : ℤ) → a ≤ℤ b → (p +ℤ a) ≤ℤ (p +ℤ b)
raised {a} {b} p h = omega (signed, add_parts p a, add_parts p b)

-- z lies between a and b
pub data Amid (a b z : ℤ) : Type 0 where
  upward : a ≤ℤ z → z ≤ℤ b → Amid a b z
  downward : b ≤ℤ z → z ≤ℤ a → Amid a b z

-- what has no larger part up and no larger part down than d lies between 0 and d
pub parts_amid : (d z : ℤ) → up z ≤ up d → down z ≤ down d → Amid (pos 0) d z
parts_amid (pos n) z h k = upward (omega signed) (omega signed)
parts_amid (negsuc n) z h k = downward (omega signed) (omega signed)

-- what lies between two numbers does so with p added to all three
pub shifted : {a b z : ℤ} (p : ℤ) → Amid a b z → Amid (p +ℤ a) (p +ℤ b) (p +ℤ z)
shifted p (upward h k) = upward (raised p h) (raised p k)
shifted p (downward h k) = downward (raised p h) (raised p k)

-- the sum of two numbers lies between their doubles
pub middle : (x y : ℤ) → Amid (x +ℤ x) (y +ℤ y) (x +ℤ y)
middle x y = go (le_z x y) refl
  where
    go : (c : Bool) → le_z x y ≡ c → Amid (x +ℤ x) (y +ℤ y) (x +ℤ y)
    go true e = upward (omega (signed, add_parts x x, add_parts x y)) (omega (signed, add_parts x y, add_parts y y))
    go false e = downward (omega (signed, add_parts x y, add_parts y y)) (omega (signed, add_parts x x, add_parts x y))

-- with any two numbers a convex set holds all between them
pub record Convex (P : ℤ → Type 0) : Type 0 where
  pub between : {a b z : ℤ} → P a → P b → Amid a b z → P z

-- the numbers from a least one up are convex
pub at_least : (lo : ℤ) → Convex (λ z. lo ≤ℤ z)
at_least lo = record { between = λ p q m. go p q m }
  where
    go : {a b z : ℤ} → lo ≤ℤ a → lo ≤ℤ b → Amid a b z → lo ≤ℤ z
    go p q (upward h k) = omega signed
    go p q (downward h k) = omega signed

-- the numbers up to a greatest one are convex
pub at_most : (hi : ℤ) → Convex (λ z. z ≤ℤ hi)
at_most hi = record { between = λ p q m. go p q m }
  where
    go : {a b z : ℤ} → a ≤ℤ hi → b ≤ℤ hi → Amid a b z → z ≤ℤ hi
    go p q (upward h k) = omega signed
    go p q (downward h k) = omega signed

-- the numbers between two are convex
pub between_convex : (lo hi : ℤ) → Convex (Between lo hi)
between_convex lo hi = record {
  between = λ p q m. ((at_least lo).between p.0 q.0 m, (at_most hi).between p.1 q.1 m);
}
