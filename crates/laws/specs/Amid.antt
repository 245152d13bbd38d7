-- What lies between two integers.
use Rattle.std.specs.Prelude.{ℤ, ◌≤ℤ◌}

-- z is at least lo and at most hi
abbrev pub Between : (lo hi : ℤ) → ℤ → Type 0
Between lo hi z = (lo ≤ℤ z) × (z ≤ℤ hi)
