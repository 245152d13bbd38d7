use lib.Seq.{length-take-le}
use mathlib.Core.Path.{refl, sym}
use Rattle.numbers.specs.Arrays.{zeros}
use Rattle.rules.specs.Result.{result_size}
use borrow.Author.Rules.{rules}
use Rattle.answers.proofs.RefusedLine.{written_fits}
use Rattle.consolidate.proofs.main.Goals as goal

pub answer-written-requires : goal.answer-written-requires
unfolding zeros result_size
answer-written-requires c = (search rules, refl)

pub slice_bounds-out-end : goal.slice_bounds-out-end
slice_bounds-out-end c = written_fits _ _ _ _ c.answer-written.ensures

pub slice_bounds-write_all-end : goal.slice_bounds-write_all-end
slice_bounds-write_all-end c = sym (length-take-le _ _ (written_fits _ _ _ _ c.answer-written.ensures))
