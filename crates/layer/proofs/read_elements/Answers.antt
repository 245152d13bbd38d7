use borrow.Author.Rules.{rules}
use Rattle.layer.proofs.SegmentsAt.{segments_none, segments_store}
use Rattle.numbers.proofs.Filled.{filled_zero, filled_store}
use Rattle.layer.proofs.read_elements.Goals as goal

pub loop-j-init : goal.loop-j-init
loop-j-init c = search (rules, filled_zero, segments_none)

pub loop-j-preserved : goal.loop-j-preserved
loop-j-preserved c = search (rules, filled_store, segments_store)
