use borrow.Author.Rules.{rules}
use Rattle.rules.specs.Result.{node_height}
use Rattle.result_elements.proofs.node_height.Goals as goal

pub returns : goal.returns
unfolding node_height
returns c = search rules
