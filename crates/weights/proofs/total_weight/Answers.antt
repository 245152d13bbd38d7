use borrow.Author.Rules.{rules}
use Rattle.weights.proofs.WeightsAt.{weight_step, weight_end}
use Rattle.weights.proofs.total_weight.Goals as goal

pub loop-j-preserved : goal.loop-j-preserved
loop-j-preserved c = search (rules, weight_step)

pub returns : goal.returns
returns c = search (rules, weight_end)
