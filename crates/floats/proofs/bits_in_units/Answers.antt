use Prim.Native.Nat.{ℕ, ◌-◌, ◌*◌, ◌/◌, ◌^◌, ◌<◌}
use native.Mathlib.Omega.{arith}
use borrow.Author.Rules.{rules}
use borrow.Author.Tests.{le-leb, lt-leb}
use lib.IntN.{pos, neg_ℤ, ◌-ℤ◌}
use mathlib.Core.Bool.{Bool}
use mathlib.Core.Path.{◌≡◌, sym, ap, ◌∙◌}
use mir.Syntax.{w64}
use mir.Val.{SFits, to_z}
use Rattle.floats.proofs.Bits.{mantissa_lt, halved_in_units}
use Rattle.floats.proofs.Quotients.{halved_lt}
use Rattle.floats.specs.Binary32.{negative, mantissa, power, with_sign, in_units}
use Rattle.numbers.proofs.Signed.{signed, read_back, read_unsigned, parts_fits, parts_eq, sub_parts, one_sided, up_neg, down_neg}
use Rattle.floats.proofs.bits_in_units.Goals as goal
use Rattle.floats.proofs.bits_in_units.Lts as lts
use Rattle.floats.proofs.bits_in_units.Reads as reads
use Rattle.floats.proofs.bits_in_units.Tie as tie

-- 0 - n is -n, and fits
minus : (n : ℕ) → pos 0 -ℤ pos n ≡ neg_ℤ (pos n)
minus n =
    parts_eq (pos 0 -ℤ pos n) (neg_ℤ (pos n))
    (omega (signed, sub_parts (pos 0) (pos n), one_sided (pos 0 -ℤ pos n), up_neg (pos n), down_neg (pos n)))

minus-fits : (n : ℕ) → n < 2 ^ 54 → SFits w64 (pos 0 -ℤ pos n)
minus-fits n h = parts_fits (pos 0 -ℤ pos n) (omega (signed, sub_parts (pos 0) (pos n), one_sided (pos 0 -ℤ pos n)))

-- the size in the unit, rounded down
module _ (c : lts.After-halved tie.the-claims reads.Pre reads.Post) where
  abbrev s : lts.Start tie.the-claims reads.Pre reads.Post
  s = c.before.before.before

  abbrev bits : ℕ
  bits = s.args.bits

  abbrev unit : ℕ
  unit = s.args.unit

  abbrev size : ℕ
  size = c.halved-size.result

  size_is : size ≡ mantissa bits * unit / 2 ^ (149 - power bits)
  size_is = rw (← c.mantissa.ensures, ← c.halvings.ensures) c.halved-size.ensures

  size-lt : size < 2 ^ 54
  size-lt = rw size_is (halved_lt (mantissa bits) unit (mantissa_lt bits) s.requires.1 (149 - power bits))

  read : to_z w64 size ≡ pos size
  read = read_unsigned size (omega (arith, size-lt))

  value : in_units unit bits ≡ with_sign (negative bits) size
  value = halved_in_units unit bits s.requires.0 ∙ ap (with_sign (negative bits)) (sym size_is)

pub halved-size-requires : goal.halved-size-requires
halved-size-requires c = (rw c.mantissa.ensures (mantissa_lt c.args.bits), c.requires.1)

pub overflow_cast-size : goal.overflow_cast-size
overflow_cast-size c = parts_fits (pos (size c)) (omega (arith, size-lt c))

pub overflow_sub-result : goal.overflow_sub-result
overflow_sub-result c = rw (read c.before) (minus-fits (size c.before) (size-lt c.before))

pub returns-then-bits-lt2147483648 : goal.returns-then-bits-lt2147483648
returns-then-bits-lt2147483648 c =
    let h = c.before in
    read h ∙ sym (value h ∙ ap (λ (t : Bool). with_sign t (size h)) (lt-leb (2 ^ 31) (bits h) c.if-bits-lt2147483648.true))

pub returns-else-bits-lt2147483648 : goal.returns-else-bits-lt2147483648
returns-else-bits-lt2147483648 c =
    let h = c.before in
    rw (read h)
    (read_back (minus-fits (size h) (size-lt h)) ∙ minus (size h) ∙
    sym (value h ∙ ap (λ (t : Bool). with_sign t (size h)) (le-leb (2 ^ 31) (bits h) c.if-bits-lt2147483648.false)))
