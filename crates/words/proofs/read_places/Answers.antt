use native.Mathlib.Omega.{arith}
use lib.ListN.{length}
use mathlib.Core.Path.{sym, ◌∙◌}
use Rattle.numbers.proofs.Filled.{filled_zero, filled_store, filled_done, filled-all}
use Rattle.words.specs.Words.{places_from}
use Rattle.words.proofs.read_places.Goals as goal

pub loop-i-init : goal.loop-i-init
loop-i-init c = sym (filled_zero _ _)

pub loop-i-preserved : goal.loop-i-preserved
loop-i-preserved c = filled_store _ _ _ _ _ (omega arith) c.loop-i.invariant c.word.ensures

pub returns : goal.returns
unfolding places_from
returns c =
    let numbers = c.args.numbers.now in
    filled_done _ _ _ (length numbers) _ c.loop-i.invariant (omega arith) ∙ filled-all numbers (length numbers) _ (omega arith)
