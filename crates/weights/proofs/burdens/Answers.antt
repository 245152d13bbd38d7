use borrow.Author.Rules.{rules}
use native.Mathlib.Omega.{arith}
use Rattle.numbers.proofs.Filled.{filled_zero, filled_store}
use Rattle.weights.proofs.WeightsAt.{weight_step, burden_is}
use Rattle.weights.proofs.burdens.Goals as goal

pub loop-j-init : goal.loop-j-init
loop-j-init c = search (rules, filled_zero)

pub overflow_sub-over : goal.overflow_sub-over
overflow_sub-over c = omega (arith, weight_step)

pub loop-j-preserved : goal.loop-j-preserved
loop-j-preserved c = search (rules, filled_store, weight_step, burden_is)
