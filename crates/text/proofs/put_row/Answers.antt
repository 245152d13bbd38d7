use native.Mathlib.Omega.{arith}
use Rattle.text.specs.Text.{row}
use Rattle.text.proofs.Laws.{put_nothing, put_put, row_more}
use Rattle.text.proofs.put_row.Goals as goal

pub loop-i-init : goal.loop-i-init
unfolding row
loop-i-init c = (omega arith, put_nothing)

pub loop-i-preserved : goal.loop-i-preserved
loop-i-preserved c =
    let put = c.put_number-next.ensures in
    let (bound, before) = c.loop-i.invariant in
    (omega arith, rw (row_more c.args.values.now c.loop-i.i (omega (arith, c.requires.n_in_bounds))) (put_put before put.put))
