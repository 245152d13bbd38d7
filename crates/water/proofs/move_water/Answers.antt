use native.Mathlib.Omega.{arith}
use mathlib.Core.Path.{refl, sym}
use Rattle.numbers.proofs.Filled.{filled_zero}
use Rattle.numbers.proofs.Signed.{read_back}
use Rattle.water.proofs.WaterAt.{next_enters, unmoved, moved_cast, moved_store}
use Rattle.water.proofs.move_water.Goals as goal

pub loop-j-init : goal.loop-j-init
loop-j-init c = (refl, sym (filled_zero _ _))

pub new_water-requires-clause-water_le_most : goal.new_water-requires-clause-water_le_most
new_water-requires-clause-water_le_most c =
    let inv = rw (read_back c.ranges.lowest) at c.loop-j.invariant in
    rw (unmoved _ _ _ _ c.requires.movable _ (omega arith) inv.1) (c.requires.movable.water_most c.loop-j.j (omega arith))

pub overflow_cast-water : goal.overflow_cast-water
overflow_cast-water c =
    let inv = rw (read_back c.ranges.lowest) at c.loop-j.invariant in
    moved_cast _ _ _ _ c.requires.movable c.loop-j.j (omega arith) inv.1 inv.0 c.new_water.ensures (c.requires.by_index c.loop-j.j (omega arith)) (record { sfits = c.new_water.type_inv })

pub loop-j-preserved : goal.loop-j-preserved
loop-j-preserved c =
    let inv = rw (read_back c.ranges.lowest) at c.loop-j.invariant in
    rw (read_back c.ranges.lowest) (
      next_enters _ _ _ _ c.requires.movable c.loop-j.j (omega arith),
      moved_store _ _ _ _ c.requires.movable c.loop-j.j (omega arith) inv.1 inv.0 c.new_water.ensures (c.requires.by_index c.loop-j.j (omega arith)) (record { sfits = c.new_water.type_inv }) (omega arith),
    )
