-- The new water of a step, element by element, as arrays hold it.
use Rattle.std.specs.Prelude.{ℕ, ◌≤◌, ◌<◌, ℤ, pos, ◌+ℤ◌, ◌-ℤ◌, get_or, Bool, ◌&&◌, List, ◌∷◌}
use Rattle.std.specs.Int.Signed.{le_z}
use Rattle.numbers.specs.Interval.{Within}
use Rattle.laws.specs.Most.{most_flow}
use Rattle.quantities.specs.Quantities.{water_limits}
use Rattle.rules.specs.Step.{new_height}

-- the new water of element j: less what leaves by its upper face, and what enters by its lower, the lowest being the bottom
abbrev pub new_water : (lowest : ℤ) (above : List ℤ) (water : List ℕ) → ℕ → ℤ
new_water lowest above water j = pos (get_or water j 0) -ℤ get_or above j (pos 0) +ℤ get_or (lowest ∷ above) j (pos 0)

-- its height after the step
abbrev pub height_after : (lowest : ℤ) (above : List ℤ) (water : List ℕ) → ℕ → ℕ
height_after lowest above water j = new_height (get_or water j 0) (new_water lowest above water j)

-- a height lies between two bounds
abbrev pub between : (low high : ℕ) → ℤ → Bool
between low high W = le_z (pos low) W && le_z W (pos high)

-- the new water of element j lies between its bounds
abbrev pub stays_at : (lowest : ℤ) (above : List ℤ) (water low high : List ℕ) → ℕ → Bool
stays_at lowest above water low high j = between (get_or low j 0) (get_or high j 0) (new_water lowest above water j)

-- what moving water needs: no height and no flow is out of range
pub record Movable (elements : ℕ) (lowest : ℤ) (above : List ℤ) (water : List ℕ) : Type 0 where
  pub lowest_within : Within lowest most_flow
  pub above_within : (j : ℕ) → j < elements → Within (get_or above j (pos 0)) most_flow
  pub water_most : (j : ℕ) → j < elements → get_or water j 0 ≤ water_limits.most
