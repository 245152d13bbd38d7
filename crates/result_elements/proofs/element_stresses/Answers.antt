use borrow.Author.Rules.{rules}
use Rattle.result_elements.proofs.Ranges.{water_most, stress_most, excess_within, node_low, pore_within}
use Rattle.rules.specs.Layer.{excess_pressure}
use Rattle.rules.specs.Result.{pore_pressure}
use Rattle.result_elements.proofs.element_stresses.Goals as goal

pub effective_stress-found-requires-clause-solids_nonzero : goal.effective_stress-found-requires-clause-solids_nonzero
effective_stress-found-requires-clause-solids_nonzero c = search (rules, water_most)

pub excess_pressure-excess-requires-clause-burden_le_most_burden : goal.excess_pressure-excess-requires-clause-burden_le_most_burden
excess_pressure-excess-requires-clause-burden_le_most_burden c =
    let most = stress_most _ _ _ c.requires.stress_value _ _ _ _ c.requires.on_soil in search rules

pub node_height-requires-clause-solids_le_most : goal.node_height-requires-clause-solids_le_most
node_height-requires-clause-solids_le_most c = search (rules, water_most)

pub pore_pressure-pore-requires-clause-within : goal.pore_pressure-pore-requires-clause-within
unfolding excess_pressure
pore_pressure-pore-requires-clause-within c =
    let excess = excess_within _ _ _ c.requires.stress_value _ _ _ _ c.requires.on_soil in search rules

pub pore_pressure-pore-requires-clause-top_level_value : goal.pore_pressure-pore-requires-clause-top_level_value
pore_pressure-pore-requires-clause-top_level_value c =
    let water = water_most _ _ _ c.requires.stress_value _ _ _ _ c.requires.on_soil in search (rules, node_low)

pub returns-clause-pore_value : goal.returns-clause-pore_value
unfolding excess_pressure pore_pressure
returns-clause-pore_value c = search rules

pub returns-clause-effective_le_most : goal.returns-clause-effective_le_most
unfolding excess_pressure
returns-clause-effective_le_most c =
    let of = c.requires in
    let water = water_most _ _ _ of.stress_value _ _ _ _ of.on_soil in
    let stress = stress_most _ _ _ of.stress_value _ _ _ _ of.on_soil in
    let excess = excess_within _ _ _ of.stress_value _ _ _ _ of.on_soil in
    search (rules, node_low, pore_within)
