-- The key by what opening answers, and by the room for a result; the numbers that it returns, and what it leaves of the buffer.
use Prim.Native.Nat.{ℕ, ◌≤◌, ◌<◌}
use native.Mathlib.Omega.{arith}
use borrow.Author.Tests.{lt-ltb, le-ltb}
use lib.Dec.{ltb, lit≤}
use lib.ListN.{length, take}
use lib.Seq.{take-append_seam}
use mathlib.Core.Bool.{Bool, true, false}
use mathlib.Core.List.{List}
use mathlib.Core.Logic.{◌⊎◌, inl, inr, ⊎_elim}
use Rattle.std.specs.Prelude.{Option, None, Some}
use mathlib.Core.Path.{◌≡◌, refl, sym, ap, subst, ◌∙◌}
use Rattle.claims.proofs.Causes.{cause_tried}
use Rattle.claims.proofs.Described.{described_sound}
use Rattle.claims.proofs.Opened.{opening_either, opened, opened_record_lem}
use Rattle.claims.proofs.Stands.{stands_layer}
use Rattle.claims.proofs.Starts.{off_started, steady-started, unsteady_started}
use Rattle.key.proofs.Layers.{ended_elements}
use Rattle.key.specs.Water.{water_run}
use Rattle.laws.specs.Every.{Every}
use Rattle.laws.proofs.SoundFields.{sound_fields}
use Rattle.lent.proofs.Standing.{counted}
use Rattle.numbers.specs.Arrays.{zeros, overlaid}
use Rattle.numbers.proofs.Filled.{first_length, length-zeros, length-filled, length-overlaid, overlaid-take}
use Rattle.result.proofs.ResultLaws.{result-length}
use Rattle.rules.specs.Calls.{ended_run}
use Rattle.rules.specs.Job.{Description, firsts, seconds, described, job_site, framing_causes, described_causes, job_causes}
use Rattle.rules.specs.Key.{run_to_result, key}
use Rattle.rules.specs.Layer.{Site, State}
use Rattle.rules.specs.Opening.{Started, started_with, not_started, opened_record, refused_opening, description_water, start_steady, started, opening}
use Rattle.rules.specs.Outcome.{refusal_of}
use Rattle.quantities.specs.Quantities.{clock_limits, budget_limits, element_limits}
use Rattle.rules.specs.Record.{record_site, record_state, is_layer}
use Rattle.rules.specs.Refusals.{first_cause, refusal_number}
use Rattle.rules.specs.Result.{Returned, refused_result, result_bytes, result_size}
use Rattle.rules.specs.Start.{opening_state}
use Rattle.rules.specs.declared.answers.Answer.{Answer}
use Rattle.rules.specs.declared.answers.Answer.TheVariants.{Done, Refused}
use Rattle.rules.specs.declared.answers.Answered.{Answered}
use Rattle.rules.specs.declared.answers.Refusal.{Refusal}
use Rattle.rules.specs.declared.answers.Refusal.TheVariants.{StartNotSteady, StartOffCurve, ShortBuffer}
use Rattle.rules.specs.declared.record.Record.{Record}

-- ---- the room for a layer's result

module _ (r : Record) (end budget : ℕ) (buffer : List ℕ) where
  abbrev n : ℕ
  n = r.layer.frame.elements

  abbrev pub written : Returned
  written =
      let run = ended_run r end budget in
      record { number = 0; buffer = overlaid (result_bytes run.after run.stop run.steps) buffer }

  by_room : (short : Bool) → ltb (length buffer) (result_size n) ≡ short →
      (run_to_result r end budget buffer ≡ elim short [ true ↦ refused_result ShortBuffer buffer | false ↦ written ]) ×
      (water_run r end budget buffer ≡ elim short [ true ↦ r.layer.water | false ↦ (ended_run r end budget).after.layer.water ])
  unfolding run_to_result water_run
  by_room short e = (
    ap (λ (b : Bool). elim b as (λ _. Returned) [ true ↦ refused_result ShortBuffer buffer | false ↦ written ]) e,
    ap (λ (b : Bool). elim b as (λ _. List ℕ) [ true ↦ r.layer.water | false ↦ (ended_run r end budget).after.layer.water ]) e,
  )

  -- too little room: buffer and water are left
  pub no_room : length buffer < result_size n → (run_to_result r end budget buffer ≡ refused_result ShortBuffer buffer) × (water_run r end budget buffer ≡ r.layer.water)
  no_room h = by_room true (lt-ltb _ _ h)

  -- room enough: the result is written, and the water is the run's
  pub room_enough : result_size n ≤ length buffer → (run_to_result r end budget buffer ≡ written) × (water_run r end budget buffer ≡ (ended_run r end budget).after.layer.water)
  room_enough h = by_room false (le-ltb _ _ h)

-- ---- what opening answers

module _ (job buffer : List ℕ) where
  by_answer : (answer : Answer) → (opening job).answer ≡ answer →
      key job buffer ≡ elim (refusal_of answer) [
        | Some cause ↦ refused_result cause buffer
        | None ↦ run_to_result (opening job).after (described job).header.end (described job).header.budget buffer
      ]
  unfolding key
  by_answer answer e =
      ap (λ (a : Answer). elim (refusal_of a) as (λ _. Returned) [
        | Some cause ↦ refused_result cause buffer
        | None ↦ run_to_result (opening job).after (described job).header.end (described job).header.budget buffer
      ]) e

  -- a refused job
  pub key-refused : (cause : Refusal) → (opening job).answer ≡ Refused cause → key job buffer ≡ refused_result cause buffer
  unfolding refusal_of
  key-refused cause e = by_answer (Refused cause) e

-- ---- a job that opening accepts

module _ (job : List ℕ) (done : (opening job).answer ≡ Done) where
  -- its record is a layer whose clock is 0
  pub opened_layer : is_layer (opening job).after ≡ true
  opened_layer = stands_layer _ _ _ _ (opened_record_lem job done)

  pub opened_clock : (opening job).after.layer.progress.clock.0 ≡ 0
  unfolding record_state opening_state
  opened_clock = ap (λ (s : State). s.clock) (opened_record_lem job done).state_is

  -- and which has as many elements as the job describes
  opened_elements : (opening job).after.layer.frame.elements ≡ (described job).header.elements
  unfolding record_site job_site
  opened_elements =
      let d = described job in
      let l = (opening job).after.layer in
      sym (first_length l.frame.elements l.solids) ∙ ap (λ (site : Site). length site.solids) (opened_record_lem job done).site_is ∙
      first_length d.header.elements d.solids

  -- its array of water is whole
  pub opened_long : length (opening job).after.layer.water ≡ 128
  unfolding opened_record opening_state job_site described seconds firsts
  opened_long =
      let d = described job in
      let o = opened job done in
      let n = d.header.elements in
      let few : n ≤ element_limits.most = subst (λ (k : ℕ). k ≤ element_limits.most) opened_elements (counted (opening job).after opened_layer).1 in
      let size : length o.water ≡ n = (opened_record_lem job done).kept.size ∙ first_length n d.solids in
      let whole : length d.water ≡ 128 = length-filled (zeros 128) n _ (omega (arith, length-zeros 128)) ∙ length-zeros 128 in
      ap (λ (r : Record). length r.layer.water) o.left ∙ length-overlaid o.water d.water (omega arith) ∙ whole

  -- its end and budget keep their limits
  pub end_and_budget : ((described job).header.end ≤ clock_limits.most) × ((described job).header.budget ≤ budget_limits.most)
  end_and_budget =
      let fields = sound_fields (described job) (described_sound job (opened job done).no_cause).fields in
      (fields.end_most, fields.budget_most)

  -- its key is the result of a run to its end within its budget
  pub key_run : (buffer : List ℕ) →
      key job buffer ≡ run_to_result (opening job).after (described job).header.end (described job).header.budget buffer
  unfolding refusal_of
  key_run buffer = by_answer job buffer Done done

-- ---- the numbers that the key returns

-- the number of each cause that opening tests is 9 at most, or 20
abbrev pub OpeningCause : Refusal → Type 0
OpeningCause cause = (refusal_number cause ≤ 9) ⊎ (refusal_number cause ≡ 20)

causes_numbered : (job : List ℕ) → Every (λ trial. refusal_number trial.cause ≤ 9) (job_causes job)
unfolding job_causes framing_causes described_causes Every refusal_number
causes_numbered job = (lit≤ tt, (lit≤ tt, (lit≤ tt, (lit≤ tt, (lit≤ tt, (lit≤ tt, (lit≤ tt, (lit≤ tt, tt))))))))

-- those of a start are 9 and 20
start_numbered : (d : Description) (cause : Refusal) → started d ≡ not_started cause → OpeningCause cause
unfolding refusal_number
start_numbered d cause e = found (description_water d) refl
  where
    same : (a b : Refusal) → not_started a ≡ not_started b → a ≡ b
    same a b e = cc

    nine : OpeningCause StartOffCurve
    nine = inl (lit≤ tt)

    twenty : OpeningCause StartNotSteady
    twenty = inr refl

    with_not : (water : List ℕ) → started_with water ≡ not_started cause → ⊥
    with_not water e = let z : ◌≡◌ {A = ℕ} 0 1 = cc in omega arith

    steadied : (water : List ℕ) → description_water d ≡ Some water → (c : Bool) → start_steady d water ≡ c → OpeningCause cause
    steadied water p true s = absurd (with_not water (sym (steady-started d water p s) ∙ e))
    steadied water p false s = subst OpeningCause (same StartNotSteady cause (sym (unsteady_started d water p s) ∙ e)) twenty

    found : (o : Option (List ℕ)) → description_water d ≡ o → OpeningCause cause
    found None p = subst OpeningCause (same StartOffCurve cause (sym (off_started d p) ∙ e)) nine
    found (Some water) p = steadied water p (start_steady d water) refl

pub opening_numbered : (job : List ℕ) → ((cause : Refusal) × ((opening job ≡ refused_opening cause) × OpeningCause cause)) ⊎ ((opening job).answer ≡ Done)
unfolding opening
opening_numbered job = found (first_cause (job_causes job)) refl (started (described job)) refl
  where
    found : (first : Option Refusal) → first_cause (job_causes job) ≡ first → (start : Started) → started (described job) ≡ start →
        let a : Answered = elim first as (λ _. Answered) [
          | Some cause ↦ refused_opening cause
          | None ↦ elim start as (λ _. Answered) [
            | not_started cause ↦ refused_opening cause
            | started_with water ↦ record { answer = Done; after = opened_record (described job) water }
          ]
        ] in
        ((cause : Refusal) × ((a ≡ refused_opening cause) × OpeningCause cause)) ⊎ (a.answer ≡ Done)
    found (Some cause) p start q =
        inl (cause, (refl, inl (cause_tried (λ c. refusal_number c ≤ 9) (job_causes job) cause (causes_numbered job) p)))
    found None p (not_started cause) q = inl (cause, (refl, start_numbered (described job) cause q))
    found None p (started_with water) q = inr refl

run_number : (r : Record) (end budget : ℕ) (buffer : List ℕ) → (run_to_result r end budget buffer).number ≤ 10
unfolding run_to_result refused_result refusal_number
run_number r end budget buffer = go (ltb (length buffer) (result_size r.layer.frame.elements))
  where
    go : (short : Bool) → (elim short as (λ _. Returned) [ true ↦ refused_result ShortBuffer buffer | false ↦ written r end budget buffer ]).number ≤ 10
    go true = lit≤ tt
    go false = lit≤ tt

-- 0, or the number of one of the causes 1 to 10 and 20
abbrev pub KeyNumber : ℕ → Type 0
KeyNumber n = (n ≤ 10) ⊎ (n ≡ 20)

pub opening-key : (cause : Refusal) → OpeningCause cause → KeyNumber (refusal_number cause)
opening-key cause told = ⊎_elim (λ small. inl (omega arith)) (λ twenty. inr twenty) told

pub key_most : (n : ℕ) → KeyNumber n → n ≤ 20
key_most n told = ⊎_elim (λ small. omega arith) (λ twenty. omega arith) told

-- The key returns such a number.
pub key_numbers : (job buffer : List ℕ) → KeyNumber (key job buffer).number
unfolding refused_result refused_opening
key_numbers job buffer =
    ⊎_elim
    (λ (cause, (is, told)). rw (key-refused job buffer cause (ap (λ (a : Answered). a.answer) is)) (opening-key cause told))
    (λ done.
    rw (key_run job done buffer)
    (inl (run_number (opening job).after (described job).header.end (described job).header.budget buffer)))
    (opening_numbered job)

-- ---- what is left of the buffer

-- all past the first n places is left; with a number other than 0, the whole buffer
pub record Leaves (buffer : List ℕ) (n : ℕ) (x : Returned) : Type 0 where
  pub refused_whole : (x.number ≡ 0 → ⊥) → x.buffer ≡ buffer
  pub past : x.buffer ≡ overlaid (take n x.buffer) buffer

module _ (buffer : List ℕ) (n : ℕ) where
  leaves_whole : (number : ℕ) → Leaves buffer n (record { number = number; buffer = buffer })
  leaves_whole number = record { refused_whole = λ _. refl; past = sym (overlaid-take n buffer) }

  leaves_front : (front : List ℕ) → length front ≡ n → Leaves buffer n (record { number = 0; buffer = overlaid front buffer })
  unfolding overlaid
  leaves_front front h = record {
    refused_whole = λ other. absurd (other refl);
    past = rw (← h, take-append_seam front _) refl;
  }

  leaves_run : (r : Record) (end budget : ℕ) → result_size r.layer.frame.elements ≡ n → Leaves buffer n (run_to_result r end budget buffer)
  unfolding run_to_result refused_result
  leaves_run r end budget h = go (ltb (length buffer) (result_size r.layer.frame.elements))
    where
      go : (short : Bool) → Leaves buffer n (elim short [ true ↦ refused_result ShortBuffer buffer | false ↦ written r end budget buffer ])
      go true = leaves_whole (refusal_number ShortBuffer)
      go false =
          let run = ended_run r end budget in
          leaves_front (result_bytes run.after run.stop run.steps)
          (result-length run.after run.stop run.steps ∙ ap result_size (ended_elements r end budget) ∙ h)

module _ (job buffer : List ℕ) where
  abbrev size : ℕ
  size = result_size (described job).header.elements

  -- the key leaves all past its result
  pub key_leaves : Leaves buffer size (key job buffer)
  unfolding refused_opening refused_result
  key_leaves =
      ⊎_elim
      (λ (cause, is). rw (key-refused job buffer cause (ap (λ (a : Answered). a.answer) is)) (leaves_whole buffer size (refusal_number cause)))
      (λ done. rw (key_run job done buffer) (leaves_run buffer size _ _ _ (ap result_size (opened_elements job done))))
      (opening_either job)
