-- What the machine computes of pressures and flows within their limits are the differences and the products themselves.
use Prim.Native.Nat.{ℕ, ◌≤◌, ◌<◌}
use native.Mathlib.Omega.{arith}
use lib.IntN.{ℤ, pos, neg_ℤ, nat_abs, ◌-ℤ◌, ◌*ℤ◌}
use lib.Signed.{◌<ℤ◌}
use mathlib.Core.Path.{◌≡◌, refl}
use mir.Syntax.{w64}
use mir.Val.{SFits, to_z, of_z}
use Rattle.element.specs.Elements.{element_of}
use Rattle.element.proofs.FlowsAt.{outward_range}
use Rattle.laws.specs.Faces.{HeldWithin}
use Rattle.quantities.specs.declared.Face.{Face}
use Rattle.rules.specs.Step.{outward}
use Rattle.laws.specs.Most.{most_excess, most_difference, most_face_resistance, most_flow}
use Rattle.numbers.specs.Interval.{Within}
use Rattle.numbers.proofs.Interval.{within_pos, within_le, within_neg, within-sub, within-mul, within_fits}
use Rattle.numbers.proofs.Signed.{signed, sub_parts, up_neg, down_neg, read_back, read_unsigned}
use Rattle.quantities.specs.Quantities.{step_limits, most_head_pressure}

module _ {d : ℤ} (t : ℕ) (h : Within d most_difference) (short : t ≤ step_limits.most) where
  product : Within (d *ℤ pos t) most_flow
  product = within-mul h (within_le {n = step_limits.most} (within_pos t) short)

  product_read : to_z w64 (of_z w64 (to_z w64 (of_z w64 d) *ℤ to_z w64 t)) ≡ d *ℤ pos t
  product_read =
      let d-fits : SFits w64 d = within_fits tt h in
      let product-fits : SFits w64 (d *ℤ pos t) = within_fits tt product in
      rw (read_back d-fits, read_unsigned t (omega arith), read_back product-fits) refl

  -- what a division of a flow needs
  pub flow_ready : (R : ℕ) → (0 < R) × (R ≤ most_face_resistance) →
      (pos 0 <ℤ to_z w64 R) × Within (to_z w64 (of_z w64 (to_z w64 (of_z w64 d) *ℤ to_z w64 t))) 9_223_372_036_854_775_807
  flow_ready R range = rw (product_read, read_unsigned R (omega arith)) (omega signed, within_le product (omega arith))

  -- its quotient, or what it leaves
  pub flow_read : (P : ℤ → ℕ → ℤ → Type 0) {q : ℤ} (R : ℕ) → (0 < R) × (R ≤ most_face_resistance) → SFits w64 q →
      P (to_z w64 (of_z w64 (to_z w64 (of_z w64 d) *ℤ to_z w64 t))) (nat_abs (to_z w64 R)) q → P (d *ℤ pos t) R (to_z w64 (of_z w64 q))
  flow_read P R range f is = rw (read_back f) (rw (product_read, read_unsigned R (omega arith)) at is)

-- the difference to what a face holds
pub difference_read : (P : ℤ → Type 0) {excess held : ℤ} → P (to_z w64 (of_z w64 (to_z w64 (of_z w64 excess) -ℤ to_z w64 (of_z w64 held)))) →
    Within excess most_excess → Within held most_head_pressure → P (excess -ℤ held)
difference_read P {excess} {held} is h k =
    let excess-fits : SFits w64 excess = within_fits tt h in
    let held_fits : SFits w64 held = within_fits tt k in
    let difference : Within (excess -ℤ held) most_difference = within_le (within-sub h k) (omega arith) in
    let difference-fits : SFits w64 (excess -ℤ held) = within_fits tt difference in
    rw (read_back excess-fits, read_back held_fits, read_back difference-fits) at is

-- nothing less a flow out is the flow the other way
pub out_read : (face : Face) (t : ℕ) (excess : ℤ) (R : ℕ) → HeldWithin face → Within excess most_excess → t ≤ step_limits.most →
    let q = outward face t (element_of (to_z w64 (of_z w64 excess)) R 0) in
    SFits w64 (pos 0 -ℤ to_z w64 (of_z w64 q)) × (to_z w64 (of_z w64 (pos 0 -ℤ to_z w64 (of_z w64 q))) ≡ neg_ℤ (outward face t (element_of excess R 0)))
out_read face t excess R held h short =
    let out = outward face t (element_of excess R 0) in
    let range : Within (outward face t (element_of excess R 0)) most_flow = outward_range face t (element_of excess R 0) held h short in
    let excess-fits : SFits w64 excess = within_fits tt h in
    let out-fits : SFits w64 (outward face t (element_of excess R 0)) = within_fits tt range in
    let turned : pos 0 -ℤ out ≡ neg_ℤ out = omega (signed, sub_parts (pos 0) out, up_neg out, down_neg out) in
    let in-fits : SFits w64 (neg_ℤ (outward face t (element_of excess R 0))) = within_fits tt (within_neg range) in
    rw (read_back excess-fits, read_back out-fits, turned, read_back in-fits) (in-fits, refl)
