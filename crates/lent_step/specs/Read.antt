-- A layer that is set up and read, as a step is lent it.
use Rattle.std.specs.Prelude.{ℕ, ℤ, pos, replicate, true, List, ◌≡◌}
use Rattle.lent.specs.Worked.{sensitivities_in, least_water_in, most_water_in, excesses_in, resistances_in}
use Rattle.numbers.specs.Arrays.{zeros}
use Rattle.rules.specs.Curve.{curve_steepness}
use Rattle.rules.specs.Record.{compressibility_points, is_layer}
use Rattle.rules.specs.declared.record.Frame.{Frame}
use Rattle.rules.specs.declared.record.Progress.{Progress}
use Rattle.rules.specs.declared.record.Record.{Record}

-- a record that is a layer, by its numbers, what is worked out once for it, what is read of it, and its water
pub record ReadAs (r : Record) (frame : Frame) (progress : Progress) (steepness : ℕ) (sensitivity low high : List ℕ) (excess : List ℤ)
    (resistance water : List ℕ) : Type 0 where
  pub is : is_layer r ≡ true
  pub frame_is : r.layer.frame ≡ frame
  pub progress_is : r.layer.progress ≡ progress
  pub water_is : r.layer.water ≡ water
  pub steepness_is : steepness ≡ curve_steepness (compressibility_points r.soil)
  pub sensitivity_is : sensitivity ≡ sensitivities_in r
  pub low_is : low ≡ least_water_in r
  pub high_is : high ≡ most_water_in r
  pub excess_is : excess ≡ excesses_in r (replicate 128 (pos 0))
  pub resistance_is : resistance ≡ resistances_in r (zeros 128)

-- some record is read so
pub record SomeRead (frame : Frame) (progress : Progress) (steepness : ℕ) (sensitivity low high : List ℕ) (excess : List ℤ)
    (resistance water : List ℕ) : Type 0 where
  pub r : Record
  pub read : ReadAs r frame progress steepness sensitivity low high excess resistance water
