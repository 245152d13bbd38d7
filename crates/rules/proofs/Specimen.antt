-- The nine cases of the specimen hold of the rules.
use Prim.Native.Nat.{ℕ, suc, ◌≤◌}
use lib.Dec.{T, lit<, lit≤}
use mathlib.Core.Bool.{false}
use mathlib.Core.List.{List}
use Rattle.std.specs.Prelude.{Some}
use mathlib.Core.Path.{◌≡◌, refl}
use Rattle.quantities.specs.Quantities.{water_limits, pressure_of}
use Rattle.rules.specs.Curve.{Point, falling}
use Rattle.rules.specs.Layer.{skeleton_of, void_ratio, effective_stress}
use Rattle.rules.specs.Record.{record_site, record_state}
use Rattle.rules.specs.Start.{at_most, resting_water}
use Rattle.rules.specs.Outcome.{answer_number}
use Rattle.rules.specs.Job.{described, job_site}
use Rattle.rules.specs.Specimen.{Table, specimen, resting, heavier, opening_number, opened_from, numbers_after, state_after, record_elements, record_stresses, record_burdens}
use Rattle.rules.proofs.Resting.{resting-found, resting_none}

-- the compressibility curve of the specimen in start 1
unfoldable resting_curve : ℕ → List Point
unfolding described job_site resting
resting_curve load = (job_site (described (resting load))).compressibility

-- the water at rest of each element, where the height passes the test and the one below it fails
module _ (load W : ℕ) where
  rests : suc W ≤ water_limits.most → void_ratio 1_000_000 W ≤ 200_000_000 →
      T (at_most (effective_stress (skeleton_of (resting_curve load)) 1_000_000 (suc W)) load) →
      at_most (effective_stress (skeleton_of (resting_curve load)) 1_000_000 W) load ≡ false →
      resting_water (skeleton_of (resting_curve load)) 1_000_000 load ≡ Some (suc W)
  unfolding resting_curve falling
  rests small on passes fails = resting-found (resting_curve load) tt 1_000_000 (lit< tt) load W small on passes fails

pub table : Table
unfolding specimen resting heavier opening_number opened_from numbers_after state_after record_elements record_stresses record_burdens effective_stress record_site
    record_state pressure_of resting_curve falling void_ratio at_most
table = record {
  case_1_resistance = refl;
  case_1_excess = refl;
  case_2_accepted = refl;
  case_2_water = refl;
  case_2_outflow = refl;
  case_2_stress = refl;
  case_3_water = refl;
  case_3_outflow = refl;
  case_4_accepted = refl;
  case_4_refused = refl;
  case_5_refused = refl;
  case_6_accepted = rw (rests 15_000_000 1_899_999 (lit≤ tt) (lit≤ tt) tt refl, opening_number, answer_number) refl;
  case_6_water = rw (rests 15_000_000 1_899_999 (lit≤ tt) (lit≤ tt) tt refl, opened_from) refl;
  case_7_accepted = rw (rests 105_000_000 999_999 (lit≤ tt) (lit≤ tt) tt refl, opening_number, answer_number) refl;
  case_7_water = rw (rests 105_000_000 999_999 (lit≤ tt) (lit≤ tt) tt refl, opened_from) refl;
  case_7_above = refl;
  case_7_below = rw (resting_none (resting_curve 4_999_999) tt 1_000_000 (lit< tt) 4_999_999 (lit< tt), opening_number, answer_number) refl;
  case_8_burden = refl;
  case_9_positive = refl;
  case_9_negative = refl;
}
