use Prim.Native.Nat.{◌*◌}
use native.Mathlib.Omega.{arith}
use native.Mathlib.Nat.{zero-add}
use lib.ListN.{length}
use mathlib.Core.Path.{sym, ◌∙◌}
use Rattle.numbers.specs.Bytes.{column}
use Rattle.numbers.proofs.Filled.{filled_zero, filled_store, filled_done, filled-all}
use Rattle.words.specs.Words.{words_in}
use Rattle.words.proofs.bytes.read_words.Goals as goal

pub loop-i-init : goal.loop-i-init
loop-i-init c = sym (filled_zero _ _)

pub loop-i-preserved : goal.loop-i-preserved
unfolding column
loop-i-preserved c = filled_store _ _ _ _ _ (omega arith) c.loop-i.invariant (rw (zero-add (8 * c.loop-i.i)) c.word_at.ensures)

pub returns : goal.returns
unfolding words_in
returns c =
    let words = c.args.words.now in
    filled_done _ _ _ (length words) _ c.loop-i.invariant (omega arith) ∙ filled-all words (length words) _ (omega arith)
