use lib.Dec.{T}
use lib.Ieee.{of_bits, neg}
use mathlib.Core.Path.{sym, subst}
use Rattle.floats.proofs.Bits.{first_test, second_test}
use Rattle.floats.proofs.at_most_200.Goals as goal

-- the limit is 25 * 2 ^ 3, which antt reads from the literal's bits
pub returns-then-x : goal.returns-then-x
unfolding of_bits neg
returns-then-x c = second_test 25 3 c.args.x (subst T (sym c.well_formed.0.1) tt) c.if-x.true

pub returns-else-x : goal.returns-else-x
unfolding of_bits neg
returns-else-x c = first_test 25 3 c.args.x (subst T (sym c.well_formed.0.1) tt) c.if-x.false
