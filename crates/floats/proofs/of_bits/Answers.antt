use borrow.Author.Rules.{rules}
use lib.Dec.{T}
use mathlib.Core.Bool.{Bool, not}
use mathlib.Core.Path.{sym, subst}
use Rattle.floats.proofs.Bits.{plain_no_nan}
use Rattle.floats.specs.Binary32.{float_of}
use Rattle.floats.proofs.of_bits.Goals as goal

pub float_from_bits-result : goal.float_from_bits-result
float_from_bits-result c =
    rw c.plain_bits.ensures (subst (λ (z : Bool). T (not z)) (sym (plain_no_nan c.args.bits)) tt)

pub returns : goal.returns
unfolding float_of
returns c = rw c.plain_bits.ensures
