-- Opening: from a job's bytes, or from what they describe, to a record.
use Rattle.std.specs.Prelude.{ℕ, eqb, pos, Bool, not, cond, ◌||◌, List, [], ◌∷◌}
use Rattle.std.specs.Prelude.{Option, None, Some}
use Rattle.numbers.specs.Arrays.{zeros, overlaid}
use Rattle.numbers.specs.Sums.{sum}
use Rattle.quantities.specs.Quantities.{head}
use Rattle.rules.specs.Layer.{skeleton, burdens}
use Rattle.rules.specs.Start.{rests_over, start_water, opening_load, opening_state}
use Rattle.rules.specs.Steady.{steady}
use Rattle.rules.specs.Outcome.{Numbers, answer_numbers}
use Rattle.rules.specs.Refusals.{Trial, ◌if◌, first_cause, refusal_number}
use Rattle.rules.specs.Record.{soil_of, layer_of, record_of, progress_of}
use Rattle.rules.specs.Job.{Description, described, counts_of, frame_of, job_site, given_water, header_sound, described_causes, job_causes}
use Rattle.rules.specs.declared.answers.Accepted.{Accepted}
use Rattle.std.specs.Prelude.{Result, Ok, Err}
use Rattle.rules.specs.declared.answers.Answer.TheVariants.{Done, Refused}
use Rattle.rules.specs.declared.answers.Answered.{Answered}
use Rattle.rules.specs.declared.answers.Refusal.{Refusal}
use Rattle.rules.specs.declared.answers.Refusal.TheVariants.{HeaderOutside, StartOffCurve, StartNotSteady}
use Rattle.quantities.specs.declared.Face.TheVariants.{Closed}
use Rattle.rules.specs.declared.record.Record.{Record}

-- what stands where a job is refused: a record that is no layer
unfoldable pub blank_record : Record
unfolding zeros
blank_record =
    record_of (soil_of (record { compressibility = 0; conductivity = 0 }) (zeros 64) (zeros 64) (zeros 64) (zeros 64))
    (layer_of
    (record {
      top = Closed;
      bottom = Closed;
      elements = 0;
      table_points = 0;
      gravity = 0;
      top_level = head (pos 0);
      bottom_level = head (pos 0);
      starting_water = 0;
    })
    (progress_of (record { water = []; load = pos 0; clock = 0; top_outflow = pos 0; bottom_outflow = pos 0 }))
    (zeros 128) (zeros 128) (zeros 64) (zeros 64))

-- the record of a description, opened with the water of its start
unfoldable pub opened_record : Description → (water : List ℕ) → Record
unfolding frame_of opening_state job_site sum overlaid
opened_record d water =
    record_of (soil_of (counts_of d.header) d.compressibility_void d.compressibility_stress d.conductivity_void d.conductivity)
    (layer_of (frame_of d.header (sum water)) (progress_of (opening_state (job_site d) water)) d.solids (overlaid water d.water)
    d.table_time d.table_load)

unfoldable pub refused_opening : Refusal → Answered
unfolding blank_record
refused_opening cause = record { answer = Refused cause; after = blank_record }

-- the water of a description's start
unfoldable pub description_water : Description → Option (List ℕ)
unfolding start_water burdens job_site given_water opening_load rests_over
description_water d =
    let site = job_site d in
    start_water (skeleton site) (burdens site.gravity site.solids) site.solids
    (rests_over site.bottom site.top_level site.bottom_level) d.header.start (given_water d) (opening_load site)

-- in start 2 the layer is steady with the water of its start, under the opening load
unfoldable pub start_steady : Description → (water : List ℕ) → Bool
unfolding steady job_site opening_state
start_steady d water = not (eqb d.header.start 2) || steady (job_site d) (opening_state (job_site d) water)

-- what a start gives: water, or why it is refused
pub data Started : Type 0 where
  started_with : (water : List ℕ) → Started
  not_started : (cause : Refusal) → Started

-- the causes that are tested of a description's start: 9, then 20
unfoldable pub started : Description → Started
unfolding description_water start_steady
started d =
    elim (description_water d) [
      | None ↦ not_started StartOffCurve
      | Some water ↦ cond (start_steady d water) (started_with water) (not_started StartNotSteady)
    ]

-- what opening answers and leaves: causes 1 to 8, then those of the start
unfoldable pub opening : List ℕ → Answered
unfolding first_cause job_causes refused_opening described started opened_record
opening job =
    elim (first_cause (job_causes job)) [
      | Some cause ↦ refused_opening cause
      | None ↦ elim (started (described job)) [
        | not_started cause ↦ refused_opening cause
        | started_with water ↦ record { answer = Done; after = opened_record (described job) water }
      ]
    ]

-- its answer in the paper's numbers
unfoldable pub opening_numbers : List ℕ → Numbers
unfolding opening answer_numbers
opening_numbers job = answer_numbers (opening job).answer

-- the causes that are tested of a description, which has no bytes: 3, and 5 to 8
unfoldable pub layer_causes : Description → List Trial
unfolding header_sound described_causes
layer_causes d = (HeaderOutside if not (header_sound d.header)) ∷ described_causes d

-- the numbers of a description's layer, or why there is none: those causes, then those of its start
unfoldable pub accepted : Description → Result Accepted Refusal
unfolding first_cause layer_causes started frame_of opening_state job_site sum
accepted d =
    elim (first_cause (layer_causes d)) [
      | Some cause ↦ Err cause
      | None ↦ elim (started d) [
        | not_started cause ↦ Err cause
        | started_with water ↦ Ok (record { frame = frame_of d.header (sum water); progress = progress_of (opening_state (job_site d) water) })
      ]
    ]

-- an acceptance in the paper's numbers: 0, or the refusal's
unfoldable pub acceptance_number : Result Accepted Refusal → ℕ
unfolding refusal_number
acceptance_number (Ok layer) = 0
acceptance_number (Err cause) = refusal_number cause

unfoldable pub accepted_number : Description → ℕ
unfolding accepted acceptance_number
accepted_number d = acceptance_number (accepted d)

-- the water of its start in its array, or, where that is refused, the water as it is given
unfoldable pub started_water : Description → List ℕ
unfolding started overlaid
started_water d = elim (started d) [ not_started cause ↦ d.water | started_with water ↦ overlaid water d.water ]

-- that of an accepted description; where it is refused, as it is given
unfoldable pub accepted_water : Description → List ℕ
unfolding first_cause layer_causes started_water
accepted_water d = elim (first_cause (layer_causes d)) [ Some cause ↦ d.water | None ↦ started_water d ]
