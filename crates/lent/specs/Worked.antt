-- What is worked out once for a layer, and what a step reads of it, in the first places of arrays.
use Rattle.std.specs.Prelude.{ℕ, ◌-◌, ℤ, get_or, List, ◌≡◌}
use Rattle.laws.specs.Bounds.{lowest_water, highest_water}
use Rattle.layer.specs.Held.{Held, held_of, excess_at, resistance_at}
use Rattle.lent.specs.Burdens.{burdens_in}
use Rattle.numbers.specs.Arrays.{zeros, filled}
use Rattle.rules.specs.Curve.{curve_steepness}
use Rattle.rules.specs.Layer as layer
use Rattle.rules.specs.Record.{compressibility_points}
use Rattle.rules.specs.declared.record.Record.{Record}

-- the layer under its load, as it is lent to what reads it
abbrev pub held_in : Record → Held
held_in r =
    let l = r.layer in
    held_of r.soil l.frame.elements l.progress.load.0 (burdens_in l.frame l.solids) l.solids l.water

-- C of every element, and the least and the most water with which it is on the curve
abbrev pub sensitivities_in : Record → List ℕ
sensitivities_in r = filled (zeros 128) r.layer.frame.elements (λ j. layer.sensitivity (get_or r.layer.solids j 0))

abbrev pub least_water_in : Record → List ℕ
least_water_in r =
    let last = get_or r.soil.compressibility_void (r.soil.counts.compressibility - 1) 0 in
    filled (zeros 128) r.layer.frame.elements (λ j. lowest_water (get_or r.layer.solids j 0) last)

abbrev pub most_water_in : Record → List ℕ
most_water_in r =
    let first = get_or r.soil.compressibility_void 0 0 in
    filled (zeros 128) r.layer.frame.elements (λ j. highest_water (get_or r.layer.solids j 0) first)

-- these are what is worked out for it
pub record WorkedOut (r : Record) (burden sensitivity low high : List ℕ) (steepness : ℕ) : Type 0 where
  pub burden_is : burden ≡ burdens_in r.layer.frame r.layer.solids
  pub sensitivity_is : sensitivity ≡ sensitivities_in r
  pub low_is : low ≡ least_water_in r
  pub high_is : high ≡ most_water_in r
  pub steepness_is : steepness ≡ curve_steepness (compressibility_points r.soil)

-- p and r of every element; places past the count are as before
abbrev pub excesses_in : Record → (before : List ℤ) → List ℤ
excesses_in r before = filled before r.layer.frame.elements (excess_at (held_in r))

abbrev pub resistances_in : Record → (before : List ℕ) → List ℕ
resistances_in r before = filled before r.layer.frame.elements (resistance_at (held_in r))
