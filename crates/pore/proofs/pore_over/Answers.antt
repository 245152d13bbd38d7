use native.Mathlib.Omega.{arith}
use Rattle.result_elements.proofs.Ranges.{water_most}
use Rattle.pore.proofs.pore_over.Goals as goal

pub height_below-below-requires-clause-by_index : goal.height_below-below-requires-clause-by_index
height_below-below-requires-clause-by_index c j h =
    let on = c.requires.by_index j (omega arith) in
    (on.solids_most, water_most _ _ _ c.requires.stress_value _ _ _ _ on)
