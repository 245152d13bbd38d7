-- The longest step by a quotient for each contact.
use Rattle.std.specs.Prelude.{ℕ, ◌*◌, min, List, [], ◌∷◌}
use Rattle.numbers.specs.Rounding.{floor}
use Rattle.rules.specs.Step.{Contact}

-- a step shortened for each contact in turn, K being the steepness
unfoldable pub shortened : (K most : ℕ) → List Contact → ℕ
shortened K most [] = most
shortened K most (c ∷ rest) = shortened K (min most (floor c.face_resistance (2 * c.sensitivity * K))) rest
