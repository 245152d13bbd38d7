-- The flow through a face: a difference of pressures times t, cut by the face's resistance.
use Prim.Native.Nat.{ℕ, zero, suc, ◌*◌, ◌≤◌}
use native.Mathlib.Nat.{zero-mul, mul-zero, zero-div, mul-le-mul_right, le_of_mul-le-mul_right, div-mul-le_self}
use native.Mathlib.Omega.{arith}
use lib.IntN.{ℤ, pos, neg_ℤ, nat_abs, ◌*ℤ◌}
use lib.Signed.{◌≤ℤ◌}
use mathlib.Core.Path.{◌≡◌}
use Rattle.numbers.specs.Rounding.{floor, cut}
use Rattle.numbers.specs.Integers.{up, down}
use Rattle.numbers.proofs.Signed.{signed, one_sided, up_neg, down_neg, up-mul, down-mul, mul-up, mul-down, up-cut, down-cut, nat_abs_mul}
use Rattle.numbers.proofs.Division.{nat_abs_cut}
use Rattle.laws.proofs.Amid.{Amid, parts_amid}

-- K times what flows in t seconds under a difference u is at most u, where K times t does not pass the resistance
share_of_difference : (K u t R : ℕ) → K * t ≤ R → K * floor (u * t) R ≤ u
share_of_difference K u zero R h = rw (mul-zero u, zero-div R, mul-zero K) (omega arith)
share_of_difference K u (suc t) R h =
    le_of_mul-le-mul_right {k = suc t}
    (omega (arith, mul-le-mul_right (floor (u * suc t) R) h, div-mul-le_self (u * suc t) R)) (omega arith)

-- nothing flows under no difference
no_flow : (u t R : ℕ) → u ≡ 0 → floor (u * t) R ≡ 0
no_flow u t R e = rw (e, zero-mul t, zero-div R)

module _ (d : ℤ) (t R : ℕ) where
  abbrev flow : ℤ
  flow = cut (d *ℤ pos t) R

  -- the flow's part up is that of the difference, times t by R
  flow_up : up flow ≡ floor (up d * t) R
  flow_up = rw (up-cut (d *ℤ pos t) R, up-mul d t)

  -- and so its part down
  flow_down : down flow ≡ floor (down d * t) R
  flow_down = rw (down-cut (d *ℤ pos t) R, down-mul d t)

  -- under no negative difference nothing flows back
  pub flow_forward : pos 0 ≤ℤ d → pos 0 ≤ℤ flow
  flow_forward h = omega (signed, flow_down, no_flow (down d) t R (omega (signed, one_sided d)))

  -- under no positive difference nothing flows forward
  pub flow_back : d ≤ℤ pos 0 → flow ≤ℤ pos 0
  flow_back h = omega (signed, flow_up, no_flow (up d) t R (omega (signed, one_sided d)))

  module _ (K : ℕ) (short : K * t ≤ R) where
    -- K times the flow is no larger than the difference
    pub flow_size : K * nat_abs flow ≤ nat_abs d
    flow_size = rw (nat_abs_cut (d *ℤ pos t) R, nat_abs_mul d (pos t)) (share_of_difference K (nat_abs d) t R short)

    -- K times the flow lies between 0 and the difference
    pub flow_amid : Amid (pos 0) d (pos K *ℤ flow)
    flow_amid =
        parts_amid d (pos K *ℤ flow)
        (rw (mul-up K flow, flow_up) (share_of_difference K (up d) t R short))
        (rw (mul-down K flow, flow_down) (share_of_difference K (down d) t R short))

-- under the opposite difference the same flows the other way
pub flow_reversed : (d : ℤ) (t R : ℕ) → cut (neg_ℤ d *ℤ pos t) R ≡ neg_ℤ (cut (d *ℤ pos t) R)
flow_reversed d t R =
    let there = cut (d *ℤ pos t) R in
    let back = cut (neg_ℤ d *ℤ pos t) R in
    let u : up back ≡ down there = rw (flow_up (neg_ℤ d) t R, flow_down d t R, up_neg d) in
    let v : down back ≡ up there = rw (flow_down (neg_ℤ d) t R, flow_up d t R, down_neg d) in
    omega (signed, up_neg there, down_neg there)
