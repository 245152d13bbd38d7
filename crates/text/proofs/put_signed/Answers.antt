use Prim.Native.Nat.{ℕ}
use native.Mathlib.Omega.{arith}
use lib.ListN.{length}
use mathlib.Core.Path.{ap}
use Rattle.numbers.proofs.Signed.{read_back}
use Rattle.text.specs.Text.{decimal}
use Rattle.text.proofs.Laws.{signed_negative_tested, signed_positive_tested, put_put, length_put}
use Rattle.text.proofs.put_signed.Goals as goal

pub put_byte-next-requires : goal.put_byte-next-requires
put_byte-next-requires c = omega (arith, c.requires, ap length (signed_negative_tested c.args.z c.ranges.z c.if-z-lt0.true))

pub put_decimal-requires : goal.put_decimal-requires
put_decimal-requires c =
    let sign = c.put_byte-next.ensures in
    omega (
      arith,
      c.requires,
      sign.passed,
      length_put sign,
      ap length (signed_negative_tested c.args.z c.ranges.z c.if-z-lt0.true),
      ap (λ (n : ℕ). length (decimal n)) (simp (read_back c.ranges.z) at c.size.ensures),
    )

pub put_decimal-requires-else-z-lt0 : goal.put_decimal-requires-else-z-lt0
put_decimal-requires-else-z-lt0 c =
    simp (read_back c.ranges.z) (omega (arith, c.requires, ap length (signed_positive_tested c.args.z c.ranges.z c.if-z-lt0.false)))

pub returns-then-z-lt0 : goal.returns-then-z-lt0
returns-then-z-lt0 c =
    rw (signed_negative_tested c.args.z c.ranges.z c.if-z-lt0.true)
    (put_put c.put_byte-next.ensures (rw (simp (read_back c.ranges.z) at c.size.ensures) at c.put_decimal.ensures))

pub returns-else-z-lt0 : goal.returns-else-z-lt0
returns-else-z-lt0 c =
    rw (signed_positive_tested c.args.z c.ranges.z c.if-z-lt0.false) (simp (read_back c.ranges.z) at c.put_decimal-else-z-lt0.ensures)
