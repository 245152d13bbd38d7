-- Load: the load table, and setting a load.
use Rattle.std.specs.Prelude.{ℕ, ◌-◌, ltb, eqb, ℤ, pos, ◌+ℤ◌, ◌-ℤ◌, ◌*ℤ◌, Bool, true, false, not, ◌&&◌, List, [], ◌∷◌}
use Rattle.std.specs.Prelude.{Option}
use Rattle.numbers.specs.Rounding.{cut}
use Rattle.numbers.specs.Lists.{all, neighbours, first_or}
use Rattle.quantities.specs.Quantities.{within, stress_limits, clock_limits}
use Rattle.rules.specs.Curve.{Point, point}
use Rattle.rules.specs.Layer.{State}
use Rattle.rules.specs.Refusals.{◌if◌, first_cause}
use Rattle.rules.specs.declared.answers.Refusal.{Refusal}
use Rattle.rules.specs.declared.answers.Refusal.TheVariants.{LoadOutside}

-- the table's first point
unfoldable pub first_point : List Point → Point
unfolding first_or
first_point table = first_or (point 0 0) table

-- the first time is 0 and times strictly rise; times and loads keep their limits
unfoldable pub table_sound : List Point → Bool
unfolding all neighbours within first_point
table_sound table =
    eqb (first_point table).abscissa 0 && neighbours (λ a b. ltb a.abscissa b.abscissa) table &&
    all (λ p. within clock_limits p.abscissa && within stress_limits p.ordinate) table

-- the table's load at a time: between two points, cut; after the last point its load
unfoldable pub load_at : List Point → (now : ℕ) → ℤ
load_at [] now = pos 0
load_at (a ∷ []) now = pos a.ordinate
load_at (a ∷ b ∷ rest) now =
    elim (ltb now b.abscissa) [
      | true ↦
          pos a.ordinate +ℤ cut ((pos b.ordinate -ℤ pos a.ordinate) *ℤ pos (now - a.abscissa)) (b.abscissa - a.abscissa)
      | false ↦ load_at (b ∷ rest) now
    ]

-- the first table time after now, or another time where there is none
unfoldable pub next_time : List Point → (now otherwise : ℕ) → ℕ
next_time [] now otherwise = otherwise
next_time (a ∷ rest) now otherwise =
    elim (ltb now a.abscissa) [ true ↦ a.abscissa | false ↦ next_time rest now otherwise ]

-- the state with another load
unfoldable pub with_load : ℤ → State → State
with_load load s = record {
  water = s.water;
  load = load;
  clock = s.clock;
  top_outflow = s.top_outflow;
  bottom_outflow = s.bottom_outflow;
}

-- why a load is refused, if it is: 12
unfoldable pub load_refusal : (load : ℕ) → Option Refusal
unfolding first_cause within
load_refusal load = first_cause ((LoadOutside if not (within stress_limits load)) ∷ [])
