-- What an opened job says of its opening and of the arrays that it leaves.
use Prim.Native.Nat.{ℕ}
use mathlib.Core.List.{List}
use Rattle.std.specs.Prelude.{Option, None, Some}
use mathlib.Core.Path.{◌≡◌, refl, sym, ap, ◌∙◌}
use Rattle.acceptance.specs.Accepting.{water_started, accepted_burden}
use Rattle.acceptance.proofs.AcceptingLaws.{accepted_none, cause_accepts, header_within, unstarted_accepts, start_accepts}
use Rattle.description.specs.Lent.{description_of}
use Rattle.job.specs.Framing.{framing}
use Rattle.job.proofs.FramingLaws.{framed_header, framed_kept, framed_rest, unframed_first}
use Rattle.job.specs.Pairs.{Blank, Pairs}
use Rattle.opening.specs.declared.Opened.{Opened}
use Rattle.rules.specs.declared.answers.Accepted.{Accepted}
use Rattle.std.specs.Prelude.{Result, Ok, Err}
use Rattle.weights.specs.Weights.{burden_at}
use Rattle.numbers.specs.Arrays.{filled}
use Rattle.opening.specs.Opened.{opened_by, opened_job, left_description, left_burden}
use Rattle.rules.specs.Job.{Description, counts_of, described, described_causes}
use Rattle.rules.specs.Opening.{Started, started_with, not_started, started, accepted, accepted_water, layer_causes, opened_record, opening, refused_opening}
use Rattle.rules.specs.Record.{layer_of, record_of, soil_of}
use Rattle.rules.specs.Refusals.{first_cause}
use Rattle.rules.specs.declared.answers.Answer.TheVariants as answer
use Rattle.rules.specs.declared.answers.Answered.{Answered}
use Rattle.rules.specs.declared.answers.Refusal.{Refusal}
use Rattle.rules.specs.declared.job.Header.{Header}

-- ---- by the causes 1 to 4

module _ (job : List ℕ) where
  abbrev d : Description
  d = described job

  -- one of them
  module _ (cause : Refusal) (e : framing job ≡ Err cause) where
    pub unframed_opened : opened_job job ≡ Err cause
    unfolding opened_job
    unframed_opened = rw (e, opened_job)

    pub unframed_pairs : {solids water compressibility_void compressibility_stress conductivity_void conductivity table_time table_load : List ℕ} →
        Blank solids water compressibility_void compressibility_stress conductivity_void conductivity table_time table_load →
        Pairs (left_description job) solids water compressibility_void compressibility_stress conductivity_void conductivity table_time table_load
    unfolding left_description
    unframed_pairs blank = rw (e, left_description) record {
      solids_held = blank.solids_blank;
      water_held = blank.water_blank;
      compressibility_stress_held = blank.compressibility_stress_blank;
      compressibility_void_held = blank.compressibility_void_blank;
      conductivity_void_held = blank.conductivity_void_blank;
      conductivity_held = blank.conductivity_blank;
      table_time_held = blank.table_time_blank;
      table_load_held = blank.table_load_blank;
    }

    pub unframed_burden : (before : List ℕ) → left_burden job before ≡ before
    unfolding left_burden
    unframed_burden before = rw (e, left_burden)

  -- none of them
  module _ (header : Header) (e : framing job ≡ Ok header) where
    pub framed_opened : opened_job job ≡ opened_by header (accepted d)
    unfolding opened_job
    framed_opened = rw (e, opened_job)

    framed_left : left_description job ≡
        description_of d.header d.compressibility_void d.compressibility_stress d.conductivity_void d.conductivity d.solids
        (accepted_water d) d.table_time d.table_load
    unfolding left_description
    framed_left = rw (e, left_description)

    -- the pairs that were read, with other water
    pub framed_pairs : {solids water started compressibility_void compressibility_stress conductivity_void conductivity table_time table_load : List ℕ} →
        Pairs d solids water compressibility_void compressibility_stress conductivity_void conductivity table_time table_load →
        started ≡ accepted_water d →
        Pairs (left_description job) solids started compressibility_void compressibility_stress conductivity_void conductivity table_time table_load
    framed_pairs read is = rw framed_left record {
      solids_held = read.solids_held;
      water_held = is;
      compressibility_stress_held = read.compressibility_stress_held;
      compressibility_void_held = read.compressibility_void_held;
      conductivity_void_held = read.conductivity_void_held;
      conductivity_held = read.conductivity_held;
      table_time_held = read.table_time_held;
      table_load_held = read.table_load_held;
    }

    pub framed_burden : (before : List ℕ) → left_burden job before ≡ accepted_burden d before
    unfolding left_burden
    framed_burden before = rw (e, left_burden)

-- ---- the opening, by what is answered and left

unfoldable opening_by : Description → Result Opened Refusal → Answered
opening_by left (Err cause) = refused_opening cause
opening_by left (Ok o) = record {
  answer = answer.Done;
  after = record_of
      (soil_of (counts_of o.header) left.compressibility_void left.compressibility_stress left.conductivity_void left.conductivity)
      (layer_of o.frame o.progress left.solids left.water left.table_time left.table_load);
}

module _ (job : List ℕ) where
  by_parts : {left : Description} {opened : Result Opened Refusal} → left_description job ≡ left → opened_job job ≡ opened → opening job ≡ opening_by left opened →
      opening job ≡ opening_by (left_description job) (opened_job job)
  by_parts l o e = rw (l, o) e

  -- none of the causes 1 to 4
  module _ (header : Header) (e : framing job ≡ Ok header) where
    after_header : first_cause (layer_causes (d job)) ≡ first_cause (described_causes (d job))
    after_header = header_within (d job) (framed_kept job header e)

    opened_as : {answer : Result Accepted Refusal} → answer ≡ accepted (d job) → opened_job job ≡ opened_by header answer
    opened_as is = framed_opened job header e ∙ ap (opened_by header) (sym is)

    -- one of 5 to 8
    by_cause : (cause : Refusal) → first_cause (described_causes (d job)) ≡ Some cause → opening job ≡ opening_by (left_description job) (opened_job job)
    unfolding opening_by opened_by opening
    by_cause cause f =
        by_parts refl (opened_as (cause_accepts (d job) cause (after_header ∙ f)).answers) (rw (framed_rest job header e, f, opening))

    -- none of these: 9 or 20, or a layer
    by_start : first_cause (described_causes (d job)) ≡ None → (start : Started) → started (d job) ≡ start →
        opening job ≡ opening_by (left_description job) (opened_job job)
    unfolding opening_by opened_by opening opened_record water_started
    by_start f (not_started cause) is =
        by_parts refl (opened_as (unstarted_accepts (d job) (after_header ∙ f) cause is).answers) (rw (framed_rest job header e, f, is, opening))
    by_start f (started_with water) is =
        let a = start_accepts (d job) (after_header ∙ f) water is in
        by_parts (framed_left job header e) (opened_as a.answers)
        (rw (framed_rest job header e, f, is, opening, framed_header job header e, ← a.water_left))

  opening_by_lem : opening job ≡ opening_by (left_description job) (opened_job job)
  unfolding opening_by opening
  opening_by_lem = go (framing job) refl
    where
      first : (header : Header) → framing job ≡ Ok header → (o : Option Refusal) → first_cause (described_causes (d job)) ≡ o →
          opening job ≡ opening_by (left_description job) (opened_job job)
      first header e (Some cause) f = by_cause header e cause f
      first header e None f = by_start header e f (started (d job)) refl

      go : (f : Result Header Refusal) → framing job ≡ f → opening job ≡ opening_by (left_description job) (opened_job job)
      go (Err cause) e = by_parts refl (unframed_opened job cause e) (rw (unframed_first job cause e, opening))
      go (Ok header) e = first header e (first_cause (described_causes (d job))) refl

-- a refused job leaves the blank record
pub opened_blank : (job : List ℕ) (cause : Refusal) → opened_job job ≡ Err cause → opening job ≡ refused_opening cause
unfolding opening_by
opened_blank job cause e = opening_by_lem job ∙ ap (opening_by (left_description job)) e

pub opened_refused : (job : List ℕ) (cause : Refusal) → opened_job job ≡ Err cause → (opening job).answer ≡ answer.Refused cause
unfolding refused_opening
opened_refused job cause e = ap (λ (a : Answered). a.answer) (opened_blank job cause e)

-- an accepted one
module _ (job : List ℕ) {o : Opened} (e : opened_job job ≡ Ok o) where
  left_by : opening job ≡ opening_by (left_description job) (Ok o)
  left_by = opening_by_lem job ∙ ap (opening_by (left_description job)) e

  pub opened_done : (opening job).answer ≡ answer.Done
  unfolding opening_by
  opened_done = ap (λ (a : Answered). a.answer) left_by

  parts : (framing job ≡ Ok o.header) × (accepted (d job) ≡ Ok (record { frame = o.frame; progress = o.progress }))
  unfolding opened_by
  parts = go (framing job) refl
    where
      told : (h : Header) (a : Result Accepted Refusal) → opened_by h a ≡ Ok o →
          (h ≡ o.header) × (a ≡ Ok (record { frame = o.frame; progress = o.progress }))
      told h (Err cause) e = cc
      told h (Ok layer) e =
          let same : record { header = h; frame = layer.frame; progress = layer.progress } ≡ o = cc in
          (ap (λ (x : Opened). x.header) same, ap (λ (x : Opened). Ok (record { frame = x.frame; progress = x.progress })) same)

      go : (f : Result Header Refusal) → framing job ≡ f → (framing job ≡ Ok o.header) × (accepted (d job) ≡ Ok (record { frame = o.frame; progress = o.progress }))
      go (Err cause) q = let no : Err cause ≡ Ok o = sym (unframed_opened job cause q) ∙ e in cc
      go (Ok h) q =
          let t = told h (accepted (d job)) (sym (framed_opened job h q) ∙ e) in
          (q ∙ ap Ok t.0, t.1)

  pub opened_header : o.header ≡ (described job).header
  opened_header = framed_header job o.header parts.0

  -- by the arrays that it leaves: its record, and the burdens
  module _ {solids water compressibility_void compressibility_stress conductivity_void conductivity table_time table_load : List ℕ}
      (held : Pairs (left_description job) solids water compressibility_void compressibility_stress conductivity_void conductivity table_time table_load) where
    pub opened_record_lem : (opening job).after ≡
        record_of (soil_of (counts_of o.header) compressibility_void compressibility_stress conductivity_void conductivity)
        (layer_of o.frame o.progress solids water table_time table_load)
    unfolding opening_by
    opened_record_lem =
        ap (λ (a : Answered). a.after) left_by ∙
        λ i.
        record_of (soil_of (counts_of o.header) (sym held.compressibility_void_held i) (sym held.compressibility_stress_held i) (sym held.conductivity_void_held i) (sym held.conductivity_held i))
        (layer_of o.frame o.progress (sym held.solids_held i) (sym held.water_held i) (sym held.table_time_held i) (sym held.table_load_held i))

    pub opened_burden : (before : List ℕ) → left_burden job before ≡ filled before o.header.elements (burden_at o.header.gravity o.header.elements solids)
    unfolding accepted_burden
    opened_burden before =
        let solids-are : solids ≡ (d job).solids = held.solids_held ∙ ap (λ (left : Description). left.solids) (framed_left job o.header parts.0) in
        framed_burden job o.header parts.0 before ∙ rw (accepted_none (d job) parts.1, accepted_burden, opened_header, solids-are)
