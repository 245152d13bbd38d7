use Prim.Native.Nat.{ℕ, ◌*◌}
use native.Mathlib.Omega.{arith}
use lib.Dec.{leb, leb→le, le→leb}
use lib.IntN.{ℤ, pos, nat_abs, ◌-ℤ◌}
use lib.Signed.{le_z, ◌≤ℤ◌}
use mathlib.Core.Bool.{Bool, ◌&&◌}
use mathlib.Core.Path.{◌≡◌, sym, ap, ◌∙◌}
use mir.Syntax.{w64}
use mir.Val.{SFits, to_z}
use Rattle.numbers.proofs.Interval.{intervals, within-sub, within_le, within_pos, within_fits}
use Rattle.numbers.proofs.Searches.{both, joined, same_test}
use Rattle.numbers.proofs.Signed.{read_back, read_unsigned, one_sided, sub_parts, nat_abs_parts}
use Rattle.quantities.specs.Quantities.{outflow_rate, most_outflow}
use Rattle.quantities.specs.Quantities.{outflow_within}
use Rattle.quantities.proofs.Outflow.within.Goals as goal
use Rattle.quantities.proofs.Outflow.within.Lts as lts
use Rattle.quantities.proofs.Outflow.within.Reads as reads

-- a number is at most so large in size just where it lies between two
between : (z : ℤ) (most : ℕ) → (le_z (pos 0 -ℤ pos most) z && le_z z (pos most)) ≡ leb (nat_abs z) most
between z most =
    same_test (le_z (pos 0 -ℤ pos most) z && le_z z (pos most)) (leb (nat_abs z) most)
    (λ t.
    let (l, h) = both (le_z (pos 0 -ℤ pos most) z) (le_z z (pos most)) t in
    let low : (pos 0 -ℤ pos most) ≤ℤ z = record { le = l } in
    let high : z ≤ℤ pos most = record { le = h } in
    le→leb (nat_abs z) most (omega (intervals, sub_parts (pos 0) (pos most), nat_abs_parts z, one_sided z)))
    (λ t.
    let small = leb→le (nat_abs z) most t in
    let low : (pos 0 -ℤ pos most) ≤ℤ z = omega (intervals, sub_parts (pos 0) (pos most), nat_abs_parts z) in
    let high : z ≤ℤ pos most = omega (intervals, nat_abs_parts z) in
    joined (le_z (pos 0 -ℤ pos most) z) (le_z z (pos most)) low.le high.le)

module _ (c : lts.Start reads.Pre reads.Post) where
  abbrev most : ℕ
  most = outflow_rate * c.args.clock.0

  most-is : to_z w64 most ≡ pos most
  most-is = read_unsigned most (omega arith)

  least_fits : SFits w64 (pos 0 -ℤ pos most)
  least_fits = within_fits {n = most_outflow} tt (within_le (within-sub (within_pos 0) (within_pos most)) (omega arith))

-- the outflow is read from its bits
outflow-fits : (c : lts.After-struct_told reads.Pre reads.Post) → SFits w64 c.args.self.0
outflow-fits c = record { sfits = c.struct_told-1.given.0.1 }

pub overflow_sub-most : goal.overflow_sub-most
overflow_sub-most c = simp (most-is c.before) (least_fits c.before)

pub returns-then-most-self : goal.returns-then-most-self
unfolding outflow_within
returns-then-most-self c =
    let t = c.before.before.before in
    let s = t.before.before.before in
    let z = s.args.self.0 in
    let reaches = simp (most-is s, read_back (least_fits s), read_back {z = z} (outflow-fits t)) at c.if-most-self.true in
    simp (most-is s, read_back {z = z} (outflow-fits t)) (ap (λ (x : Bool). x && le_z z (pos (most s))) (sym reaches) ∙ between z (most s))

pub returns-else-most-self : goal.returns-else-most-self
unfolding outflow_within
returns-else-most-self c =
    let t = c.before in
    let s = t.before.before.before in
    let z = s.args.self.0 in
    let below = simp (most-is s, read_back (least_fits s), read_back {z = z} (outflow-fits t)) at c.if-most-self.false in
    simp (most-is s, read_back (least_fits s), read_back {z = z} (outflow-fits t))
    (below ∙ ap (λ (x : Bool). x && le_z z (pos (most s))) (sym below) ∙ between z (most s))
