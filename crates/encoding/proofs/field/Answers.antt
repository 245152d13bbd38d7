use Prim.Native.Nat.{◌-◌}
use native.Mathlib.Omega.{arith}
use mathlib.Core.Path.{◌≡◌, sym}
use Rattle.numbers.proofs.LittleEndian.{field_zero}
use Rattle.encoding.proofs.Reading.{one_byte_more}
use Rattle.encoding.proofs.field.Goals as goal

pub loop-i-init : goal.loop-i-init
loop-i-init c =
    let n = c.args.size in
    let nothing : n - n ≡ 0 = omega arith in
    rw nothing (sym (field_zero _ _))

pub overflow_mul-value : goal.overflow_mul-value
overflow_mul-value c =
    omega (arith, (one_byte_more _ _ _ _ _ (λ k. (c.type_inv.bytes k).fits) c.loop-i-test.true c.loop-i.auto.i c.requires.0 c.loop-i.invariant).1)

pub overflow_add-value-in-loop-i : goal.overflow_add-value-in-loop-i
overflow_add-value-in-loop-i c =
    omega (arith, (one_byte_more _ _ _ _ _ (λ k. (c.type_inv.bytes k).fits) c.loop-i-test.true c.loop-i.auto.i c.requires.0 c.loop-i.invariant).1)

pub loop-i-preserved : goal.loop-i-preserved
loop-i-preserved c =
    (one_byte_more _ _ _ _ _ (λ k. (c.type_inv.bytes k).fits) c.loop-i-test.true c.loop-i.auto.i c.requires.0 c.loop-i.invariant).0
