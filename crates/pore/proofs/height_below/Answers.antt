use borrow.Author.Rules.{rules}
use Rattle.numbers.specs.Arrays.{tabulate, first_places}
use Rattle.numbers.specs.Sums.{sum}
use Rattle.result_elements.proofs.Elements.{height_of, height_more}
use Rattle.pore.proofs.height_below.Goals as goal

pub loop-j-init : goal.loop-j-init
unfolding first_places tabulate height_of sum
loop-j-init c = search rules

pub loop-j-preserved : goal.loop-j-preserved
loop-j-preserved c = search (rules, height_more)

pub returns-clause-value : goal.returns-clause-value
unfolding height_of
returns-clause-value c = search rules
