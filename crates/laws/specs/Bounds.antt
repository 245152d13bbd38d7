-- The least and the most water with which an element is on a falling curve.
use Rattle.std.specs.Prelude.{ℕ, ◌+◌, ◌-◌, ◌*◌}
use Rattle.numbers.specs.Rounding.{floor, ceil}
use Rattle.quantities.specs.Quantities.{void_unit}

-- the least water with which the void ratio of an element reaches v
unfoldable pub lowest_water : (S v : ℕ) → ℕ
unfolding ceil
lowest_water S v = ceil (v * S) void_unit

-- the most water with which it does not pass u
unfoldable pub highest_water : (S u : ℕ) → ℕ
highest_water S u = floor ((u + 1) * S - 1) void_unit
