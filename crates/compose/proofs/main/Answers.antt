use lib.Seq.{length-take-le}
use mathlib.Core.Path.{refl, sym}
use Rattle.answers.proofs.RefusedLine.{written_fits}
use Rattle.numbers.specs.Arrays.{zeros}
use Rattle.compose.proofs.main.Goals as goal

pub answer-written-requires : goal.answer-written-requires
unfolding zeros
answer-written-requires c = refl

pub slice_bounds-out-end : goal.slice_bounds-out-end
slice_bounds-out-end c = written_fits _ _ _ _ c.answer-written.ensures

pub slice_bounds-write_all-end : goal.slice_bounds-write_all-end
slice_bounds-write_all-end c = sym (length-take-le _ _ (written_fits _ _ _ _ c.answer-written.ensures))
