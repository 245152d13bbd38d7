use borrow.Author.Rules.{rules}
use Rattle.rules.specs.Layer.{hydraulic_conductivity, excess_pressure, resistance}
use Rattle.curves.proofs.SmoothCurves.{conductivity_smooth}
use Rattle.layer.proofs.ReadAt.{water_most, stress_most, conductivity_range}
use Rattle.steady_test.proofs.standing.read.Goals as goal

pub effective_stress-found-requires-clause-solids_nonzero : goal.effective_stress-found-requires-clause-solids_nonzero
effective_stress-found-requires-clause-solids_nonzero c = search (rules, water_most)

pub void_ratio-ratio-requires : goal.void_ratio-ratio-requires
void_ratio-ratio-requires c = search (rules, water_most)

pub read-passed-requires-clause-smooth : goal.read-passed-requires-clause-smooth
read-passed-requires-clause-smooth c = search (rules, conductivity_smooth)

pub excess_pressure-pressure-requires-clause-burden_le_most_burden : goal.excess_pressure-pressure-requires-clause-burden_le_most_burden
excess_pressure-pressure-requires-clause-burden_le_most_burden c =
    let most = stress_most _ _ _ _ _ _ c.requires.soil_sound _ _ _ _ c.requires.on_soil in search rules

pub resistance-requires-clause-solids_le_most : goal.resistance-requires-clause-solids_le_most
resistance-requires-clause-solids_le_most c = search (rules, water_most)

pub resistance-requires-clause-conductivity_nonzero : goal.resistance-requires-clause-conductivity_nonzero
unfolding hydraulic_conductivity
resistance-requires-clause-conductivity_nonzero c =
    let range = conductivity_range _ _ _ _ _ _ c.requires.soil_sound _ _ _ _ c.requires.on_soil in search rules

pub returns : goal.returns
unfolding excess_pressure resistance hydraulic_conductivity
returns c = search rules
