use borrow.Author.Rules.{rules}
use lib.Pow.{pow_pos}
use mathlib.Core.Path.{sym}
use native.Mathlib.Omega.{arith}
use Rattle.floats.proofs.Quotients.{product_lt, nothing_left}
use Rattle.floats.proofs.halved.Goals as goal

pub returns-then-halvings-gt54 : goal.returns-then-halvings-gt54
returns-then-halvings-gt54 c = sym (nothing_left c.args.mantissa c.args.unit c.requires.0 c.requires.1 c.args.halvings c.if-halvings-gt54.true)

pub overflow_mul-result : goal.overflow_mul-result
overflow_mul-result c = omega (arith, product_lt c.args.mantissa c.args.unit c.requires.0 c.requires.1)

pub nonzero_div-result : goal.nonzero_div-result
nonzero_div-result c = rw c.power_of_two.ensures (pow_pos c.args.halvings)

pub returns : goal.returns
returns c = rw c.power_of_two.ensures
