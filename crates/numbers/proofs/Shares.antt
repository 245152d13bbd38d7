-- The laws of interpolation.
use Prim.Native.Nat.{ℕ, ◌+◌, ◌*◌, ◌≤◌, ◌<◌}
use native.Mathlib.Nat.{le_trans, le_of_eq, zero-div, mul-zero, mul-le-mul_left, mul-le-mul_right, mul-div_cancel, add-mul-div_right}
use native.Mathlib.Omega.{arith}
use mathlib.Core.Path.{◌≡◌}
use Rattle.numbers.specs.Rounding.{floor, ceil}
use Rattle.numbers.specs.Interpolation.{share}
use Rattle.numbers.proofs.Division.{floor_mono, ceil_reaches}

-- the share goes from 0 to the whole rise, never falls, and rises by at most the ceil of rise by whole for each unit
pub record Interpolates (rise whole : ℕ) : Type 0 where
  pub start : share rise 0 whole ≡ 0
  pub finish : share rise whole whole ≡ rise
  pub between : (part : ℕ) → part ≤ whole → share rise part whole ≤ rise
  pub monotone : (part more : ℕ) → part ≤ more → share rise part whole ≤ share rise more whole
  pub slope : (part d : ℕ) → share rise (part + d) whole ≤ share rise part whole + ceil rise whole * d

-- every share of a positive whole does
pub interpolates : (rise whole : ℕ) → 0 < whole → Interpolates rise whole
unfolding share
interpolates rise whole h =
    record {
      start = rw (mul-zero rise) (zero-div whole);
      finish = mul-div_cancel rise h;
      between = λ part k. le_trans (monotone part whole k) (le_of_eq (mul-div_cancel rise h));
      monotone = monotone;
      slope = slope;
    }
  where
    monotone : (part more : ℕ) → part ≤ more → floor (rise * part) whole ≤ floor (rise * more) whole
    monotone part more k = floor_mono h (rise * part) (rise * more) (mul-le-mul_left rise k)

    slope : (part d : ℕ) → floor (rise * (part + d)) whole ≤ floor (rise * part) whole + ceil rise whole * d
    slope part d =
        rw (← add-mul-div_right (rise * part) (ceil rise whole * d) h)
        (floor_mono h (rise * (part + d)) (rise * part + ceil rise whole * d * whole)
        (omega (arith, mul-le-mul_right d (ceil_reaches h rise))))
