-- Array places past a count do not matter: a description and the same up to its counts have one layer, one start and one job.
use Prim.Native.Nat.{ℕ, ◌+◌, ◌*◌, ◌<◌}
use lib.Dec.{eqb}
use lib.ListN.{get_or}
use mathlib.Core.Bool.{cond, not, ◌&&◌, ◌||◌}
use mathlib.Core.List.{List, [], ◌∷◌, ◌++◌}
use Rattle.std.specs.Prelude.{None, Some}
use mathlib.Core.Path.{◌≡◌, refl, sym, ap}
use Rattle.numbers.specs.Arrays.{filled, first_places, zeros}
use Rattle.numbers.specs.Bytes.{column}
use Rattle.numbers.specs.Lists.{all, appended}
use Rattle.numbers.proofs.Filled.{filled_cong, get_or-filled, tabulate_cong}
use Rattle.numbers.specs.Sums.{sum}
use Rattle.quantities.specs.Quantities.{within, clock_limits, budget_limits}
use Rattle.rules.specs.Curve.{points, point, compressibility_sound, conductivity_sound}
use Rattle.rules.specs.Job.{Description, described, described_causes, fields_sound, firsts, frame_of, given_water, header_length, header_sound, job_site, pair_length, seconds}
use Rattle.rules.specs.Layer.{skeleton, burdens}
use Rattle.rules.specs.Load.{table_sound}
use Rattle.rules.specs.Opening.{Started, started_with, not_started, accepted, description_water, layer_causes, start_steady, started}
use Rattle.rules.specs.Record.{progress_of, sizes_sound}
use Rattle.rules.specs.Refusals.{◌if◌, first_cause}
use Rattle.rules.specs.Start.{opening_load, opening_state, rests_over, start_water}
use Rattle.rules.specs.Steady.{steady}
use Rattle.rules.specs.declared.answers.Refusal.{Refusal}
use Rattle.rules.specs.declared.answers.Accepted.{Accepted}
use Rattle.std.specs.Prelude.{Result, Ok, Err}
use Rattle.rules.specs.declared.answers.Refusal.TheVariants.{HeaderOutside, FieldOutside, CompressibilityCurve, ConductivityCurve, LoadTable, StartNotSteady, StartOffCurve}
use Rattle.writer.specs.RoundTrips.{up_to, up_to_counts}
use Rattle.writer.specs.Writing.{header_bytes, job_bytes, pair_bytes, pairs_bytes}

-- below its count an array stays
up_to_at : (size n : ℕ) (array : List ℕ) (i : ℕ) → i < n → get_or (up_to size n array) i 0 ≡ get_or array i 0
unfolding up_to
up_to_at size n array i h = get_or-filled (zeros size) n (λ i. get_or array i 0) i 0 h

places_kept : (size n : ℕ) (array : List ℕ) → first_places n (up_to size n array) ≡ first_places n array
unfolding first_places
places_kept size n array = tabulate_cong n _ _ (up_to_at size n array)

points_kept : (size n : ℕ) (xs ys : List ℕ) → points n (up_to size n xs) (up_to size n ys) ≡ points n xs ys
unfolding points
points_kept size n xs ys = tabulate_cong n _ _ (λ i h. λ k. point (up_to_at size n xs i h k) (up_to_at size n ys i h k))

pairs_kept : (size n : ℕ) (xs ys : List ℕ) → pairs_bytes n (up_to size n xs) (up_to size n ys) ≡ pairs_bytes n xs ys
unfolding pairs_bytes
pairs_kept size n xs ys = ap appended (tabulate_cong n _ _ (λ i h. λ k. pair_bytes (up_to_at size n xs i h k) (up_to_at size n ys i h k)))

module _ (d : Description) where
  pub site_kept : job_site (up_to_counts d) ≡ job_site d
  unfolding up_to_counts job_site
  site_kept = λ i. record {
    solids = places_kept 128 d.header.elements d.solids i;
    compressibility = points_kept 64 d.header.compressibility_points d.compressibility_void d.compressibility_stress i;
    conductivity = points_kept 64 d.header.conductivity_points d.conductivity_void d.conductivity i;
    load_table = points_kept 64 d.header.table_points d.table_time d.table_load i;
    top = (job_site d).top;
    bottom = (job_site d).bottom;
    gravity = d.header.gravity;
    top_level = (job_site d).top_level;
    bottom_level = (job_site d).bottom_level;
  }

  pub given_kept : given_water (up_to_counts d) ≡ given_water d
  unfolding up_to_counts given_water
  given_kept = places_kept 128 d.header.elements d.water

  pub bytes_kept : job_bytes (up_to_counts d) ≡ job_bytes d
  unfolding up_to_counts job_bytes
  bytes_kept = λ i.
      header_bytes d.header ++ pairs_kept 128 d.header.elements d.solids d.water i ++
      pairs_kept 64 d.header.compressibility_points d.compressibility_stress d.compressibility_void i ++
      pairs_kept 64 d.header.conductivity_points d.conductivity_void d.conductivity i ++
      pairs_kept 64 d.header.table_points d.table_time d.table_load i

-- what a job says is so already
module _ (job : List ℕ) where
  again : (size offset count : ℕ) → firsts size offset count job ≡ up_to size count (firsts size offset count job)
  unfolding firsts up_to
  again size offset count =
      let numbers = column pair_length offset job in
      filled_cong (zeros size) count numbers (λ i. get_or (filled (zeros size) count numbers) i 0)
      (λ i h. sym (get_or-filled (zeros size) count numbers i 0 h))

  pub described_counted : described job ≡ up_to_counts (described job)
  unfolding described up_to_counts seconds
  described_counted =
      let d = described job in
      let compressibility_at = header_length + pair_length * d.header.elements in
      let conductivity_at = compressibility_at + pair_length * d.header.compressibility_points in
      let table_at = conductivity_at + pair_length * d.header.conductivity_points in
      λ i. record {
        header = d.header;
        solids = again 128 header_length d.header.elements i;
        water = again 128 (header_length + 8) d.header.elements i;
        compressibility_stress = again 64 compressibility_at d.header.compressibility_points i;
        compressibility_void = again 64 (compressibility_at + 8) d.header.compressibility_points i;
        conductivity_void = again 64 conductivity_at d.header.conductivity_points i;
        conductivity = again 64 (conductivity_at + 8) d.header.conductivity_points i;
        table_time = again 64 table_at d.header.table_points i;
        table_load = again 64 (table_at + 8) d.header.table_points i;
      }

-- what is said of a description by its header, its site and its water is said of any with the same
module _ (d e : Description) (header : e.header ≡ d.header) (site : job_site e ≡ job_site d) (given : given_water e ≡ given_water d) where
  fields_alike : fields_sound e ≡ fields_sound d
  unfolding fields_sound
  fields_alike = λ i.
      sizes_sound (site i) (given i) && within clock_limits (header i).end && within budget_limits (header i).budget &&
      (not (eqb (header i).start 1) || all (λ w. eqb w 0) (given i))

  causes_alike : layer_causes e ≡ layer_causes d
  unfolding layer_causes described_causes
  causes_alike = λ i.
      (HeaderOutside if not (header_sound (header i))) ∷
      (FieldOutside if not (fields_alike i)) ∷
      (CompressibilityCurve if not (compressibility_sound (site i).compressibility)) ∷
      (ConductivityCurve if not (conductivity_sound (site i).conductivity (site i).compressibility)) ∷
      (LoadTable if not (table_sound (site i).load_table)) ∷ []

  water_alike : description_water e ≡ description_water d
  unfolding description_water
  water_alike = λ i.
      start_water (skeleton (site i)) (burdens (site i).gravity (site i).solids) (site i).solids
      (rests_over (site i).bottom (site i).top_level (site i).bottom_level) (header i).start (given i) (opening_load (site i))

  steady_alike : (water : List ℕ) → start_steady e water ≡ start_steady d water
  unfolding start_steady
  steady_alike water = λ i. not (eqb (header i).start 2) || steady (site i) (opening_state (site i) water)

  started_alike : started e ≡ started d
  unfolding started
  started_alike = λ i.
      elim (water_alike i) as (λ _. Started) [
        | None ↦ not_started StartOffCurve
        | Some water ↦ cond (steady_alike water i) (started_with water) (not_started StartNotSteady)
      ]

  accepted_alike : accepted e ≡ accepted d
  unfolding accepted
  accepted_alike = λ i.
      elim (first_cause (causes_alike i)) as (λ _. Result Accepted Refusal) [
        | Some cause ↦ Err cause
        | None ↦ elim (started_alike i) as (λ _. Result Accepted Refusal) [
          | not_started cause ↦ Err cause
          | started_with water ↦ Ok (record { frame = frame_of (header i) (sum water); progress = progress_of (opening_state (site i) water) })
        ]
      ]

-- so what is said of a description is said of it up to its counts
module _ (d : Description) where
  kept_header : (up_to_counts d).header ≡ d.header
  unfolding up_to_counts
  kept_header = refl

  pub causes_kept : layer_causes (up_to_counts d) ≡ layer_causes d
  causes_kept = causes_alike d (up_to_counts d) (kept_header) (site_kept d) (given_kept d)

  pub started_kept : started (up_to_counts d) ≡ started d
  started_kept = started_alike d (up_to_counts d) (kept_header) (site_kept d) (given_kept d)

  pub accepted_kept : accepted (up_to_counts d) ≡ accepted d
  accepted_kept = accepted_alike d (up_to_counts d) (kept_header) (site_kept d) (given_kept d)
