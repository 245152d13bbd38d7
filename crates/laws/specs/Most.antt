-- The most that can be read of a layer whose numbers keep their limits. Where a number is written out, the comment has
-- what it is rounded up from.
use Rattle.std.specs.Prelude.{ℕ, ◌+◌, ◌*◌, ◌-◌, ◌/◌}
use Rattle.quantities.specs.Quantities.{stress_limits, solids_limits, step_limits, gravity_limits, element_limits, void_unit}

-- the buoyant weight of the most solids with the greatest gravity
abbrev pub most_weight : ℕ
most_weight = solids_limits.most * (gravity_limits.most - 1_000) * 9_810 / 1_000_000_000

-- of as many elements as there can be
abbrev pub most_total_weight : ℕ
most_total_weight = element_limits.most * most_weight

-- B: 127 elements of the greatest weight over half of one
abbrev pub sharp_burden : ℕ
sharp_burden = (element_limits.most - 1) * most_weight + most_weight / 2

-- the same rounded up, as contracts ask it
abbrev pub most_burden : ℕ
most_burden = 510_000_000

-- p, above and below zero: the greatest load and burden, 2_510_000_000
abbrev pub most_excess : ℕ
most_excess = 2_520_000_000

-- between two elements, 5_040_000_000, or an element and a drained face
abbrev pub most_difference : ℕ
most_difference = 10_000_000_000

-- r: the greatest height at the least conductivity, 5_395_500_000_000
abbrev pub most_resistance : ℕ
most_resistance = 5_400_000_000_000

-- R of an inner face: two such elements, 10_800_000_000_000
abbrev pub most_face_resistance : ℕ
most_face_resistance = 11_000_000_000_000

-- c: of a nanometre of solids
abbrev pub most_sensitivity : ℕ
most_sensitivity = void_unit

-- 2cG, by which a resistance is divided: no curve is steeper than its greatest stress
abbrev pub most_divisor : ℕ
most_divisor = 2 * most_sensitivity * stress_limits.most

-- through a face: the greatest difference over the longest step
abbrev pub most_flow : ℕ
most_flow = most_difference * step_limits.most
