-- The definitions say of every 32 bits what IEEE 754 says.
use Prim.Native.Nat.{ℕ, zero, suc, ◌+◌, ◌-◌, ◌*◌, ◌^◌, ◌<◌}
use native.Mathlib.Nat.{mul_assoc, mul_comm, mul_left_comm, mul-one, pow-suc}
use native.Mathlib.Omega.{arith}
use borrow.Author.Tests.{eq-eqb, ne_eqb}
use lib.Dec.{eqb, ltb→lt, lit<}
use lib.Ieee.{Float, nan, inf, fin, up, down, binary32, of_fields, of_bits}
use lib.Ieee.Exact.{HasValue}
use mathlib.Core.Bool.{Bool, cond}
use mathlib.Core.Path.{◌≡◌, sym, ap, ◌∙◌, subst}
use Rattle.floats.proofs.Bits.{by_fields, finite_value}
use Rattle.floats.specs.Binary32.{negative, exponent_field, fraction, mantissa, power, size}
use Rattle.floats.specs.Ieee754.{Ieee754}

-- a fraction doubled above and below is the same
doubled : (x : Float) (s : Bool) (a c : ℕ) → HasValue x s a c → HasValue x s (2 * a) (2 * c)
doubled nan s a c v = v
doubled (inf t) s a c v = v
doubled (fin t m e) s a c v =
    (v.0, mul_left_comm (m * up e) 2 c ∙ ap (λ (n : ℕ). 2 * n) v.1 ∙ sym (mul_assoc 2 a (down e)))

-- twice m * 2 ^ (x - 1)
twice_power : (m x : ℕ) → 0 < x → 2 * (m * 2 ^ (x - 1)) ≡ 2 ^ x * m
twice_power m zero h = absurd (omega arith)
twice_power m (suc x) h = rw (less x) (mul_left_comm 2 m (2 ^ x) ∙ mul_comm m (2 * 2 ^ x) ∙ ap (λ (n : ℕ). n * m) (mul_comm 2 (2 ^ x) ∙ sym (pow-suc 2 x)))
  where
    less : (x : ℕ) → suc x - 1 ≡ x
    less x = omega arith

module _ (bits : ℕ) where
  subnormal_value : exponent_field bits ≡ 0 → HasValue (of_bits binary32 bits) (negative bits) (fraction bits) (2 ^ 149)
  unfolding size mantissa
  subnormal_value e = simp (e, mul-one) at (finite_value bits (rw e (lit< tt)))

  normal_value : 0 < exponent_field bits → exponent_field bits < 255 →
      HasValue (of_bits binary32 bits) (negative bits) (2 ^ exponent_field bits * (2 ^ 23 + fraction bits)) (2 ^ 150)
  unfolding size mantissa
  normal_value some finite =
      subst (λ (a : ℕ). HasValue (of_bits binary32 bits) (negative bits) a (2 ^ 150))
      (ap (λ (m : ℕ). 2 * (m * 2 ^ power bits)) (ap (λ (z : Bool). cond z (fraction bits) (2 ^ 23 + fraction bits)) (ne_eqb (exponent_field bits) 0 (λ e. omega arith))) ∙
      twice_power (2 ^ 23 + fraction bits) (exponent_field bits) some)
      (doubled (of_bits binary32 bits) (negative bits) (size bits) (2 ^ 149) (finite_value bits finite))

  -- the greatest field
  beyond : exponent_field bits ≡ 255 → of_bits binary32 bits ≡ cond (eqb (fraction bits) 0) (inf (negative bits)) nan
  unfolding of_fields
  beyond e = by_fields bits ∙ ap (λ (x : ℕ). of_fields binary32 (negative bits) x (fraction bits)) e

  pub ieee754 : Ieee754 bits
  ieee754 = record {
    subnormal = subnormal_value;
    normal = normal_value;
    infinite = λ e z. beyond e ∙ ap (λ (t : Bool). cond t (inf (negative bits)) nan) (eq-eqb (fraction bits) 0 z);
    no_number = λ e z. beyond e ∙ ap (λ (t : Bool). cond t (inf (negative bits)) nan) (ne_eqb (fraction bits) 0 z);
    value = λ h. finite_value bits (ltb→lt (exponent_field bits) 255 h);
  }
