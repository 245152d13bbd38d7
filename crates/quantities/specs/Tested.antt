-- What a constructor that tests the limits of its kind answers.
use Rattle.std.specs.Prelude.{ℕ, pos, if◌then◌else◌, Option, Some, None}
use Rattle.quantities.specs.Quantities.{within, level_limits, stress_limits, void_limits, clock_limits, head, pressure}
use Rattle.quantities.specs.declared.quantity.Limits.{Limits}
use Rattle.quantities.specs.declared.Head.{Head}
use Rattle.quantities.specs.declared.Pressure.{Pressure}
use Rattle.quantities.specs.declared.Void.{Void}
use Rattle.quantities.specs.declared.Clock.{Clock}

-- a value, if its number keeps the limits
abbrev pub tested : {A : Type 0} → Limits → ℕ → A → Option A
tested limits n value = if within limits n then Some value else None

abbrev pub tested_head : ℕ → Option Head
tested_head level = tested level_limits level (head (pos level))

abbrev pub tested_pressure : ℕ → Option Pressure
tested_pressure stress = tested stress_limits stress (pressure (pos stress))

abbrev pub tested_void : ℕ → Option Void
tested_void ratio = tested void_limits ratio (record { 0 = ratio })

abbrev pub tested_clock : ℕ → Option Clock
tested_clock seconds = tested clock_limits seconds (record { 0 = seconds })
