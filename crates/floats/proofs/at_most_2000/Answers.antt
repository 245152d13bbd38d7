use lib.Dec.{T}
use lib.Ieee.{of_bits, neg}
use mathlib.Core.Path.{sym, subst}
use Rattle.floats.proofs.Bits.{first_test, second_test}
use Rattle.floats.proofs.at_most_2000.Goals as goal

-- the limit is 125 * 2 ^ 4, which antt reads from the literal's bits
pub returns-then-x : goal.returns-then-x
unfolding of_bits neg
returns-then-x c = second_test 125 4 c.args.x (subst T (sym c.well_formed.0.1) tt) c.if-x.true

pub returns-else-x : goal.returns-else-x
unfolding of_bits neg
returns-else-x c = first_test 125 4 c.args.x (subst T (sym c.well_formed.0.1) tt) c.if-x.false
