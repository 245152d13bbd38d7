-- Quantities: the limits of each kind, and the weight of water.
-- Lengths and volumes per unit area are in nanometres, stresses and pressures in millipascals, times in seconds,
-- conductivities in femtometres per second, void ratios in hundred-millionths.
use Rattle.std.specs.Prelude.{ℕ, ◌*◌, ◌/◌, leb, ℤ, pos, negsuc, nat_abs, ◌*ℤ◌, Bool, false, ◌&&◌, Option}
use Rattle.numbers.specs.Rounding.{cut}
use Rattle.quantities.specs.declared.Head.{Head}
use Rattle.quantities.specs.declared.quantity.Limits.{Limits}
use Rattle.quantities.specs.declared.Pressure.{Pressure}

infix 40 from◌to◌
abbrev pub from◌to◌ : ℕ → ℕ → Limits
from least to most = record { least = least; most = most }

abbrev pub stress_limits : Limits
stress_limits = from 0 to 2_000_000_000

abbrev pub void_limits : Limits
void_limits = from 1 to 1_000_000_000

abbrev pub conductivity_limits : Limits
conductivity_limits = from 1 to 1_000_000_000

abbrev pub level_limits : Limits
level_limits = from 0 to 200_000_000_000

abbrev pub clock_limits : Limits
clock_limits = from 0 to 3_000_000_000

abbrev pub solids_limits : Limits
solids_limits = from 100_000 to 100_000_000

abbrev pub water_limits : Limits
water_limits = from 0 to 1_000_000_000

abbrev pub step_limits : Limits
step_limits = from 1 to 1_000_000

abbrev pub budget_limits : Limits
budget_limits = from 0 to 1_000_000

abbrev pub gravity_limits : Limits
gravity_limits = from 1_000 to 5_000

abbrev pub element_limits : Limits
element_limits = from 1 to 128

abbrev pub curve_limits : Limits
curve_limits = from 2 to 64

abbrev pub table_limits : Limits
table_limits = from 1 to 64

abbrev pub starting_water_limits : Limits
starting_water_limits = from 0 to 128_000_000_000

-- a byte that says no or yes
abbrev pub flag_limits : Limits
flag_limits = from 0 to 1

-- where the water of a layer comes from: as given, at rest, or given and steady
abbrev pub start_limits : Limits
start_limits = from 0 to 2

-- a field that must be 0
abbrev pub zero_limits : Limits
zero_limits = from 0 to 0

-- what a curve gives at an abscissa: its ordinate, or nothing off the curve
abbrev pub CurveValue : Type 0
CurveValue = Option ℕ

-- a void ratio of 1
abbrev pub void_unit : ℕ
void_unit = 100_000_000

-- no outflow is greater in size than this for each second of the clock
abbrev pub outflow_rate : ℕ
outflow_rate = 2_300_000_000

-- so none is greater than this at the last second of the clock
abbrev pub most_outflow : ℕ
most_outflow = outflow_rate * clock_limits.most

-- a number keeps the limits of its kind
unfoldable pub within : Limits → ℕ → Bool
within limits n = leb limits.least n && leb n limits.most

-- a signed one: none of the kinds goes below 0
unfoldable pub within_ℤ : Limits → ℤ → Bool
unfolding within
within_ℤ limits (pos n) = within limits n
within_ℤ limits (negsuc n) = false

-- an outflow keeps its bound
unfoldable pub outflow_within : (outflow : ℤ) (clock : ℕ) → Bool
outflow_within outflow clock = leb (nat_abs outflow) (outflow_rate * clock)

abbrev pub head : ℤ → Head
head length = record { 0 = length }

abbrev pub pressure : ℤ → Pressure
pressure stress = record { 0 = stress }

-- the pressure of a head, by the weight of water
unfoldable pub pressure_of : Head → Pressure
pressure_of h = pressure (cut (h.0 *ℤ pos 981) 100_000)

-- that of the greatest head, the whole range of levels
abbrev pub most_head_pressure : ℕ
most_head_pressure = level_limits.most * 981 / 100_000
