use borrow.Author.Rules.{rules}
use Rattle.element.proofs.FlowsAt.{flow_inner, flow_top}
use Rattle.numbers.proofs.Filled.{filled_zero, filled_store, filled_done}
use Rattle.flows.proofs.flows_above.Goals as goal

pub loop-j-init : goal.loop-j-init
loop-j-init c = search (rules, filled_zero)

pub loop-j-preserved : goal.loop-j-preserved
loop-j-preserved c = search (rules, filled_store, flow_inner)

pub returns : goal.returns
returns c = search (rules, filled_store, filled_done, flow_top)
