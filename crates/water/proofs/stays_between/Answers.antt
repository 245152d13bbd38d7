use native.Mathlib.Omega.{arith}
use mathlib.Core.Path.{refl, ◌∙◌}
use Rattle.numbers.proofs.Indices.{all_rest, index_fails, index_goes, index_ends}
use Rattle.numbers.proofs.Signed.{read_back}
use Rattle.water.proofs.WaterAt.{next_enters, stays_read}
use Rattle.water.proofs.stays_between.Goals as goal

pub loop-j-init : goal.loop-j-init
loop-j-init c = (refl, all_rest _ _)

pub returns-then-not-between : goal.returns-then-not-between
returns-then-not-between c =
    let inv = rw (read_back c.ranges.lowest) at c.loop-j.invariant in
    let stays = stays_read _ _ _ _ c.requires.movable c.loop-j.j (omega arith) inv.0 c.new_water.ensures _ _ (record { sfits = c.new_water.type_inv }) c.between.ensures in
    index_fails _ _ _ inv.1 (omega arith) (stays ∙ c.if-not-between.true)

pub loop-j-preserved : goal.loop-j-preserved
loop-j-preserved c =
    let inv = rw (read_back c.ranges.lowest) at c.loop-j.invariant in
    let stays = stays_read _ _ _ _ c.requires.movable c.loop-j.j (omega arith) inv.0 c.new_water.ensures _ _ (record { sfits = c.new_water.type_inv }) c.between.ensures in
    rw (read_back c.ranges.lowest)
    (next_enters _ _ _ _ c.requires.movable c.loop-j.j (omega arith), index_goes _ _ _ inv.1 (omega arith) (stays ∙ c.if-not-between.false))

pub returns : goal.returns
returns c = index_ends _ _ _ (rw (read_back c.ranges.lowest) at c.loop-j.invariant).1 (omega arith)
