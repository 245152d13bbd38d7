-- The most that the numbers of a result can be.
use Rattle.std.specs.Prelude.{ℕ, ◌+◌, ◌*◌}
use Rattle.laws.specs.Most.{most_excess}
use Rattle.quantities.specs.Quantities.{element_limits, solids_limits, water_limits, most_head_pressure}

-- the height of all below an element: 128 elements of the greatest height
abbrev pub most_height : ℕ
most_height = element_limits.most * (solids_limits.most + water_limits.most)

-- pore pressure, above and below zero
abbrev pub most_pore : ℕ
most_pore = most_excess + most_head_pressure
