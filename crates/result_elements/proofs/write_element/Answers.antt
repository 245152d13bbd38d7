use borrow.Author.Rules.{rules}
use Rattle.rules.specs.Result.{element_bytes}
use Rattle.result_elements.proofs.Ranges.{water_most}
use Rattle.result_elements.proofs.write_element.Goals as goal

pub void_ratio-requires : goal.void_ratio-requires
void_ratio-requires c = search (rules, water_most)

pub returns : goal.returns
unfolding element_bytes
returns c = search rules
