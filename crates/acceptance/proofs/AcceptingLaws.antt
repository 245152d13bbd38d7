-- What accepting a description answers and leaves, by its first cause and its start.
use Prim.Native.Nat.{ℕ}
use mathlib.Core.Bool.{true, false}
use mathlib.Core.List.{List}
use Rattle.std.specs.Prelude.{Option, None, Some}
use mathlib.Core.Path.{◌≡◌, refl}
use Rattle.acceptance.specs.Accepting.{water_started, accepted_burden}
use Rattle.weights.specs.Weights.{burden_at}
use Rattle.numbers.specs.Arrays.{filled}
use Rattle.numbers.specs.Sums.{sum}
use Rattle.rules.specs.Job.{Description, described_causes, frame_of, header_sound, job_site}
use Rattle.rules.specs.Opening.{accepted, accepted_water, layer_causes, started_water, started, started_with, not_started}
use Rattle.rules.specs.Record.{progress_of}
use Rattle.rules.specs.Refusals.{first_cause}
use Rattle.rules.specs.Start.{opening_state}
use Rattle.rules.specs.declared.answers.Accepted.{Accepted}
use Rattle.std.specs.Prelude.{Result, Ok, Err}
use Rattle.rules.specs.declared.answers.Refusal.{Refusal}
use Rattle.rules.specs.declared.answers.Refusal.TheVariants.{HeaderOutside}

module _ (d : Description) where
  -- cause 3, and the causes after it
  pub header_outside : header_sound d.header ≡ false → first_cause (layer_causes d) ≡ Some HeaderOutside
  unfolding layer_causes first_cause
  header_outside e = rw (e, first_cause)

  pub header_within : header_sound d.header ≡ true → first_cause (layer_causes d) ≡ first_cause (described_causes d)
  unfolding layer_causes first_cause
  header_within e = rw (e, first_cause)

  -- what is answered, the water that is left, and the burdens
  pub record Accepts (answer : Result Accepted Refusal) (water : List ℕ) (burden : List ℕ → List ℕ) : Type 0 where
    pub answers : answer ≡ accepted d
    pub water_left : water ≡ accepted_water d
    pub burden_left : (before : List ℕ) → burden before ≡ accepted_burden d before

  -- the burdens worked out
  abbrev pub burdens_in : List ℕ → List ℕ
  burdens_in before = filled before d.header.elements (burden_at d.header.gravity d.header.elements d.solids)

  -- one of the causes 3 and 5 to 8
  pub cause_accepts : (cause : Refusal) → first_cause (layer_causes d) ≡ Some cause → Accepts (Err cause) d.water (λ before. before)
  unfolding accepted accepted_water accepted_burden
  cause_accepts cause e = record {
    answers = rw (e, accepted);
    water_left = rw (e, accepted_water);
    burden_left = λ before. rw (e, accepted_burden);
  }

  -- none of them: 9 or 20, or a layer
  module _ (e : first_cause (layer_causes d) ≡ None) where
    pub unstarted_accepts : (cause : Refusal) → started d ≡ not_started cause → Accepts (Err cause) d.water burdens_in
    unfolding accepted accepted_water accepted_burden started_water
    unstarted_accepts cause is = record {
      answers = rw (e, is, accepted);
      water_left = rw (e, is, accepted_water, started_water);
      burden_left = λ before. rw (e, accepted_burden);
    }

    pub start_accepts : (water : List ℕ) → started d ≡ started_with water →
        Accepts (Ok (record { frame = frame_of d.header (sum water); progress = progress_of (opening_state (job_site d) water) })) (water_started (Some water) d.water) burdens_in
    unfolding accepted accepted_water accepted_burden started_water water_started
    start_accepts water is = record {
      answers = rw (e, is, accepted);
      water_left = rw (e, is, accepted_water, started_water);
      burden_left = λ before. rw (e, accepted_burden);
    }

  -- an accepted description has none of the causes
  pub accepted_none : {layer : Accepted} → accepted d ≡ Ok layer → first_cause (layer_causes d) ≡ None
  unfolding accepted
  accepted_none {layer} e = go (first_cause (layer_causes d)) e
    where
      go : (first : Option Refusal) → elim first as (λ _. Result Accepted Refusal) [
        | Some cause ↦ Err cause
        | None ↦ elim (started d) [
          | not_started cause ↦ Err cause
          | started_with water ↦ Ok (record { frame = frame_of d.header (sum water); progress = progress_of (opening_state (job_site d) water) })
        ]
      ] ≡ Ok layer → first ≡ None
      go None e = refl
      go (Some cause) e = cc
