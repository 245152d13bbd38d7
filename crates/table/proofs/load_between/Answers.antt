use Prim.Native.Nat.{ℕ, ◌+◌, ◌-◌, ◌*◌, ◌≤◌, ◌<◌}
use native.Mathlib.Omega.{arith}
use lib.Dec.{lit≤}
use lib.IntN.{ℤ, pos, nat_abs, ◌+ℤ◌, ◌*ℤ◌}
use lib.Signed.{◌<ℤ◌}
use mathlib.Core.Path.{◌≡◌, refl}
use mir.Syntax.{w64}
use mir.Val.{SFits, to_z, of_z}
use Rattle.numbers.specs.Rounding.{cut}
use Rattle.numbers.proofs.Signed.{signed, read_back, read_unsigned}
use Rattle.numbers.specs.Interval.{Within}
use Rattle.numbers.proofs.Interval.{within_pos, within_le, within-add, within-mul, within_quot, within_fits}
use Rattle.quantities.specs.Quantities.{stress_limits, clock_limits}
use Rattle.table.proofs.Laws.{segment_stress}
use Rattle.table.proofs.load_between.Goals as goal

-- what the machine computes are the product, the cut and the sum themselves
module _ {passed : ℕ} {change : ℤ} (size : Within change stress_limits.most) (early : passed ≤ clock_limits.most) where
  product-size : Within (change *ℤ pos passed) (stress_limits.most * clock_limits.most)
  product-size = within-mul {n = clock_limits.most} size (within_le (within_pos passed) early)

  product_is : to_z w64 (of_z w64 (to_z w64 (of_z w64 change) *ℤ to_z w64 passed)) ≡ change *ℤ pos passed
  product_is =
      let change-fits : SFits w64 change = within_fits tt size in
      let product-fits : SFits w64 (change *ℤ pos passed) = within_fits tt product-size in
      simp (read_unsigned passed (omega arith), read_back change-fits, read_back product-fits)

  ready : (whole : ℕ) → 0 < whole → whole ≤ clock_limits.most →
      (pos 0 <ℤ to_z w64 whole) × Within (to_z w64 (of_z w64 (to_z w64 (of_z w64 change) *ℤ to_z w64 passed))) 9_223_372_036_854_775_807
  ready whole positive short =
      rw (product_is, read_unsigned whole (omega arith)) (omega signed, within_le product-size (lit≤ tt))

  sum_is : (load0 whole : ℕ) {part : ℤ} → part ≡ cut (to_z w64 (of_z w64 (to_z w64 (of_z w64 change) *ℤ to_z w64 passed))) (nat_abs (to_z w64 whole)) →
      whole ≤ clock_limits.most → load0 ≤ stress_limits.most → let sum = to_z w64 load0 +ℤ to_z w64 (of_z w64 part) in
      SFits w64 sum × (to_z w64 (of_z w64 sum) ≡ pos load0 +ℤ cut (change *ℤ pos passed) whole)
  sum_is load0 whole e short low =
      let part-size : Within (cut (change *ℤ pos passed) whole) (stress_limits.most * clock_limits.most) = within_quot (pos whole) product-size in
      let part-fits : SFits w64 (cut (change *ℤ pos passed) whole) = within_fits tt part-size in
      let sum_fits : SFits w64 (pos load0 +ℤ cut (change *ℤ pos passed) whole) =
      within_fits {n = stress_limits.most + stress_limits.most * clock_limits.most} tt
      (within-add {m = stress_limits.most} (within_le (within_pos load0) low) part-size) in
      simp (e, product_is, read_unsigned load0 (omega arith), read_unsigned whole (omega arith), read_back part-fits, read_back sum_fits)
      (sum_fits, refl)

pub cut-requires : goal.cut-requires
cut-requires c = ready c.load_change-change.ensures.1 (omega arith) _ (omega arith) (omega arith)

pub overflow_add-result : goal.overflow_add-result
overflow_add-result c = (sum_is c.load_change-change.ensures.1 (omega arith) c.args.load0 (c.args.time1 - c.args.time0) c.cut.ensures.quotient (omega arith) (omega arith)).0

pub returns : goal.returns
returns c =
    let a = c.args in
    let change = c.load_change-change.ensures in
    let is = sum_is change.1 (omega arith) a.load0 (a.time1 - a.time0) c.cut.ensures.quotient (omega arith) (omega arith) in
    let stress = segment_stress a.load0 a.load1 (a.clock - a.time0) (a.time1 - a.time0) (omega arith) (omega arith) stress_limits.most (omega arith) (omega arith) in
    record { value = rw (is.1, change.0); pos_bound = rw (is.1, change.0) stress }
