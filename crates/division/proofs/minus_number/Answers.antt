use lib.IntN.{ℤ, pos, neg_ℤ, ◌-ℤ◌}
use mathlib.Core.Path.{◌≡◌}
use mir.Syntax.{w64}
use mir.Val.{SFits, to_z}
use native.Mathlib.Omega.{arith}
use Prim.Native.Nat.{ℕ}
use Rattle.answers.proofs.Causes.{cause_numbered}
use Rattle.division.specs.JobFlows.{minus_number}
use Rattle.numbers.proofs.Interval.{within_fits, within_le, within_neg, within_pos}
use Rattle.numbers.proofs.Signed.{signed, sub_parts, up_neg, down_neg, read_back, read_unsigned}
use Rattle.numbers.specs.Interval.{Within}
use Rattle.rules.specs.Refusals.{refusal_number}
use Rattle.division.proofs.minus_number.Goals as goal
use Rattle.division.proofs.minus_number.Lts as lts
use Rattle.division.proofs.minus_number.Reads as reads
use Rattle.division.proofs.minus_number.Tie as tie

-- nothing less a number is the number below 0
turned : (z : ℤ) → pos 0 -ℤ z ≡ neg_ℤ z
turned z = omega (signed, sub_parts (pos 0) z, up_neg z, down_neg z)

module _ (c : lts.After-refusal_number tie.the-claims reads.Pre reads.Post) where
  abbrev number : ℕ
  number = refusal_number c.args.cause

  number_is : to_z w64 c.refusal_number.result ≡ pos number
  number_is =
      let few = cause_numbered c.args.cause in
      rw c.refusal_number.ensures (read_unsigned number (omega (arith, few)))

  below-fits : SFits w64 (pos 0 -ℤ pos number)
  below-fits =
      let few = cause_numbered c.args.cause in
      let within : Within (neg_ℤ (pos number)) 20 = within_neg (within_le (within_pos number) few.1) in
      rw (turned (pos number)) (within_fits tt within)

pub overflow_cast-result : goal.overflow_cast-result
overflow_cast-result c =
    let within : Within (pos (number c)) 20 = within_le (within_pos (number c)) (cause_numbered c.args.cause).1 in
    rw c.refusal_number.ensures (within_fits tt within)

pub overflow_sub-result : goal.overflow_sub-result
overflow_sub-result c = rw (number_is c) (below-fits c)

pub returns : goal.returns
unfolding minus_number
returns c = rw (number_is c, read_back (below-fits c)) (turned (pos (number c)))
