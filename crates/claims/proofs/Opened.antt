-- A job that opening accepts: its record stands at the state of a layer just opened.
use Prim.Native.Nat.{ℕ, ◌≤◌}
use native.Mathlib.Omega.{arith}
use lib.IntN.{pos, ◌+ℤ◌, +ℤ_idr}
use lib.ListN.{length}
use mathlib.Core.Bool.{true}
use mathlib.Core.List.{List, []}
use mathlib.Core.Logic.{◌⊎◌, inl, inr}
use Rattle.std.specs.Prelude.{Option, None, Some}
use mathlib.Core.Path.{◌≡◌, refl, sym, ◌∙◌}
use Rattle.claims.proofs.Accepted.{LoadKept}
use Rattle.claims.proofs.TableLoads.{sound_first}
use Rattle.claims.proofs.Described.{Described, described_sound, fixed_opened}
use Rattle.claims.proofs.Fixed.{sound_site, water_limited, own_places}
use Rattle.claims.proofs.Kept.{SoundSite, Kept}
use Rattle.claims.proofs.Stands.{Stands}
use Rattle.claims.proofs.Starts.{Starts, water_starts}
use Rattle.claims.proofs.StartedParts.{started_parts}
use Rattle.laws.proofs.Every.{every_at}
use Rattle.numbers.proofs.Filled.{first_length}
use Rattle.numbers.proofs.Interval.{within_pos, within_le}
use Rattle.numbers.specs.Sums.{sum}
use Rattle.numbers.proofs.Sums.{sum_le}
use Rattle.rules.specs.Job.{Description, described, frame_of, job_site, given_water, job_causes}
use Rattle.laws.proofs.Lengths.{burdens-length}
use Rattle.rules.specs.Layer.{Site, skeleton, burdens}
use Rattle.rules.specs.Opening.{Started, started_with, not_started, opened_record, refused_opening, description_water, start_steady, started, opening}
use Rattle.quantities.specs.Quantities.{starting_water_limits, water_limits}
use Rattle.rules.specs.Record.{record_site, record_state}
use Rattle.rules.specs.Refusals.{first_cause}
use Rattle.rules.specs.Start.{rests_over, opening_load, opening_state}
use Rattle.rules.specs.declared.answers.Answer.TheVariants.{Done, Refused}
use Rattle.rules.specs.declared.answers.Answered.{Answered}
use Rattle.rules.specs.declared.answers.Refusal.{Refusal}

-- opening refuses a job and leaves the blank record, or is done
pub opening_either : (job : List ℕ) →
    ((cause : Refusal) × (opening job ≡ refused_opening cause)) ⊎ ((opening job).answer ≡ Done)
unfolding opening
opening_either job = found (first_cause (job_causes job)) (started (described job))
  where
    found : (first : Option Refusal) (start : Started) →
        let a : Answered = elim first as (λ _. Answered) [
          | Some cause ↦ refused_opening cause
          | None ↦ elim start as (λ _. Answered) [
            | not_started cause ↦ refused_opening cause
            | started_with water ↦ record { answer = Done; after = opened_record (described job) water }
          ]
        ] in
        ((cause : Refusal) × (a ≡ refused_opening cause)) ⊎ (a.answer ≡ Done)
    found (Some cause) start = inl (cause, refl)
    found None (not_started cause) = inl (cause, refl)
    found None (started_with water) = inr refl

-- what opening found in a job that it accepts
pub record Opened (job : List ℕ) : Type 0 where
  pub water : List ℕ
  pub no_cause : first_cause (job_causes job) ≡ None
  pub starts : description_water (described job) ≡ Some water
  pub steadied : start_steady (described job) water ≡ true
  pub left : (opening job).after ≡ opened_record (described job) water

refused_done : (cause : Refusal) → Refused cause ≡ Done → ⊥
refused_done cause e = let z : ◌≡◌ {A = ℕ} 0 1 = cc in omega arith

pub opened : (job : List ℕ) → (opening job).answer ≡ Done → Opened job
unfolding opening refused_opening
opened job e = causes (first_cause (job_causes job)) refl e
  where
    found : Started → Answered
    found (not_started cause) = refused_opening cause
    found (started_with water) = record { answer = Done; after = opened_record (described job) water }

    start : (o : Started) → started (described job) ≡ o → first_cause (job_causes job) ≡ None → (found o).answer ≡ Done → Opened job
    start (not_started cause) p q e = absurd (refused_done cause e)
    start (started_with water) p q e =
        let (starts, steadied) = started_parts (described job) water p in
        record { water = water; no_cause = q; starts = starts; steadied = steadied; left = rw (q, p, opening) }

    causes : (o : Option Refusal) → first_cause (job_causes job) ≡ o →
        (elim o as (λ _. Answered) [
          | Some cause ↦ refused_opening cause
          | None ↦ found (started (described job))
        ]).answer ≡ Done → Opened job
    causes (Some cause) q e = absurd (refused_done cause e)
    causes None q e = start (started (described job)) refl q e

-- ---- its record

module _ (d : Description) (s : Described d) (water : List ℕ) (starts : description_water d ≡ Some water) where
  abbrev site : Site
  site = job_site d

  -- the site is sound
  sound : SoundSite site
  unfolding opened_record record_site job_site sum
  sound = sound_site (opened_record d []) (fixed_opened d s [] (omega arith))

  -- as many solids heights and as many given heights as elements
  solids_many : length site.solids ≡ d.header.elements
  unfolding job_site
  solids_many = first_length d.header.elements d.solids

  given_many : length (given_water d) ≡ d.header.elements
  unfolding given_water
  given_many = first_length d.header.elements d.water

  on : Starts (skeleton site) site.solids water
  unfolding description_water
  on =
      water_starts (skeleton site) (opening_load site) (burdens site.gravity site.solids) site.solids (rests_over site.bottom site.top_level site.bottom_level) d.header.start (given_water d) water
      (burdens-length site.gravity site.solids) (given_many ∙ sym solids_many) starts

  -- the starting water is within its limits
  few : sum water ≤ starting_water_limits.most
  few =
      let each =
      water_limited site.compressibility site.solids water sound.compressibility sound.solid sound.small on.size on.is_on_curve in
      let total = sum_le water_limits.most water (λ i h. every_at (λ W. W ≤ water_limits.most) water i 0 each h) in
      omega (arith, on.size, sound.few)

  opening_load_lem : LoadKept (pos (opening_load site))
  unfolding opening_load
  opening_load_lem = sound_first site.load_table sound.table

  kept : Kept site (sum water) (opening_state site water)
  unfolding opening_state
  kept = record {
    size = on.size;
    is_on_curve = on.is_on_curve;
    load = opening_load_lem;
    clock = omega arith;
    top_bound = within_le (within_pos 0) (omega arith);
    bottom_bound = within_le (within_pos 0) (omega arith);
    balanced = sym (+ℤ_idr (pos (sum water) +ℤ pos 0) ∙ +ℤ_idr (pos (sum water)));
  }

  -- the record has the site, and the state just opened
  state_opened : record_state (opened_record d water) ≡ opening_state site water
  unfolding opened_record record_state frame_of opening_state
  state_opened = rw (own_places water d.water d.header.elements (on.size ∙ solids_many)) refl

  pub opened_stands : Stands site (sum water) (opening_state site water) (opened_record d water)
  unfolding opened_record frame_of job_site record_site
  opened_stands = record {
    fixed = fixed_opened d s water few;
    site_is = refl;
    state_is = state_opened;
    starting_is = refl;
    kept = kept;
  }

-- the record that opening leaves
pub opened_record_lem : (job : List ℕ) (e : (opening job).answer ≡ Done) →
    let site = job_site (described job) in
    let water = (opened job e).water in
    Stands site (sum water) (opening_state site water) (opening job).after
opened_record_lem job e =
    let o = opened job e in
    rw o.left (opened_stands (described job) (described_sound job o.no_cause) o.water o.starts)
