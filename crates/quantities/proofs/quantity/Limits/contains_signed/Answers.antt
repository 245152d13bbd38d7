use mathlib.Core.Path.{sym, ◌∙◌}
use lib.IntN.{pos}
use lib.Signed.{◌≤ℤ◌}
use Rattle.numbers.proofs.Signed.{read_back, lt_z_true, lt_z_false, cast_fits}
use Rattle.quantities.proofs.Limits.{negative, not_negative}
use Rattle.quantities.proofs.quantity.Limits.contains_signed.Goals as goal
use Rattle.quantities.proofs.quantity.Limits.contains_signed.Lts as lts
use Rattle.quantities.proofs.quantity.Limits.contains_signed.Reads as reads
use Rattle.quantities.proofs.quantity.Limits.contains_signed.Tie as tie

pub returns-then-z-lt0 : goal.returns-then-z-lt0
returns-then-z-lt0 c =
    sym (negative _ c.args.z (lt_z_true _ _ (simp (read_back c.ranges.z) at c.if-z-lt0.true)))

left : (c : lts.Else1 tie.the-claims reads.Pre reads.Post) → pos 0 ≤ℤ c.args.z
left c = lt_z_false c.args.z (pos 0) (simp (read_back c.ranges.z) at c.if-z-lt0.false)

pub overflow_cast-z : goal.overflow_cast-z
overflow_cast-z c = simp (read_back c.ranges.z) (cast_fits c.args.z (left c) c.ranges.z)

pub returns : goal.returns
returns c =
    (simp (read_back c.ranges.z) at c.contains.ensures) ∙ sym (not_negative _ c.args.z (left c.before))
