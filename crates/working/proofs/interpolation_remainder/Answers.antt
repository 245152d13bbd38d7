use Prim.Native.Nat.{ℕ, ◌-◌, ◌*◌, ◌≤◌}
use native.Mathlib.Nat.{mul-le-mul}
use native.Mathlib.Omega.{arith}
use mathlib.Core.Path.{refl}
use Rattle.laws.proofs.Interpolating.{segment_divides}
use Rattle.quantities.specs.Quantities.{stress_limits, void_limits}
use Rattle.rules.specs.Curve.{point, interpolation_remainder}
use Rattle.working.proofs.SegmentReads.{divides_there}
use Rattle.working.proofs.interpolation_remainder.Goals as goal

product : {rise part : ℕ} → rise ≤ stress_limits.most → part ≤ void_limits.most → rise * part ≤ stress_limits.most * void_limits.most
product h k = mul-le-mul h k

pub overflow_mul-result : goal.overflow_mul-result
overflow_mul-result c = omega (arith, product {rise = c.args.y1 - c.args.y0} {part = c.abs_diff.result} (omega arith) (omega arith))

pub returns : goal.returns
unfolding interpolation_remainder
returns c =
    let a = point c.args.x0 c.args.y0 in
    let b = point c.args.x1 c.args.y1 in
    divides_there a b c.args.x refl (segment_divides a b c.args.x c.requires.x1_nonzero.0) (rw (c.abs_diff.ensures, c.abs_diff-2.ensures) refl)
