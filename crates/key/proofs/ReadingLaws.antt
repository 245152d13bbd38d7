-- Readings against a job's layer, by what opening answers and by the room for the answers.
use Prim.Native.Nat.{ℕ, ◌*◌, ◌/◌, ◌≤◌, ◌<◌}
use native.Mathlib.Decide.{dec_le}
use native.Mathlib.Omega.{arith}
use borrow.Author.Tests.{lt-ltb, le-ltb, ltb-true, ltb-false}
use lib.Dec.{ltb, lit≤}
use lib.ListN.{length}
use mathlib.Core.Bool.{Bool, true, false, cond}
use mathlib.Core.List.{List}
use mathlib.Core.Logic.{⊎_elim, inl}
use Rattle.std.specs.Prelude.{None, Some}
use mathlib.Core.Path.{◌≡◌, refl, ap, ◌∙◌}
use Rattle.answers.proofs.Causes.{cause_numbered}
use Rattle.claims.proofs.Opened.{opening_either}
use Rattle.field_data.specs.Words.{reading_count, answers_on}
use Rattle.key.proofs.KeyLaws.{KeyNumber, opening-key, opening_numbered, opened_layer, key-refused, key_run}
use Rattle.key.proofs.KeyLaws.{no_room as key-no-room, room_enough as key-room-enough}
use Rattle.key.specs.Readings.{run_to_readings, job_readings}
use Rattle.lent.proofs.Standing.{counted}
use Rattle.numbers.specs.Arrays.{overlaid}
use Rattle.rules.specs.Calls.{ended_run}
use Rattle.rules.specs.Job.{described}
use Rattle.rules.specs.Key.{key}
use Rattle.rules.specs.Opening.{opening, refused_opening}
use Rattle.rules.specs.Outcome.{refusal_of}
use Rattle.rules.specs.Refusals.{refusal_number}
use Rattle.rules.specs.Result.{Returned, refused_result, result_size, result_most}
use Rattle.rules.specs.declared.answers.Answer.{Answer}
use Rattle.rules.specs.declared.answers.Answer.TheVariants.{Done, Refused}
use Rattle.rules.specs.declared.answers.Answered.{Answered}
use Rattle.rules.specs.declared.answers.Refusal.TheVariants.{ShortBuffer}
use Rattle.rules.specs.declared.record.Record.{Record}

-- ---- the room for the answers

module _ (r : Record) (end budget : ℕ) (readings buffer : List ℕ) where
  abbrev pub answered : Returned
  answered = record { number = 0; buffer = overlaid (answers_on (ended_run r end budget).after readings) buffer }

  by_room : (short : Bool) → ltb (length buffer) (5 * reading_count readings) ≡ short →
      run_to_readings r end budget readings buffer ≡ elim short [ true ↦ refused_result ShortBuffer buffer | false ↦ answered ]
  unfolding run_to_readings
  by_room short e = ap (λ (b : Bool). elim b as (λ _. Returned) [ true ↦ refused_result ShortBuffer buffer | false ↦ answered ]) e

  pub no_room : length buffer / 5 < reading_count readings → run_to_readings r end budget readings buffer ≡ refused_result ShortBuffer buffer
  no_room h = by_room true (lt-ltb (length buffer) (5 * reading_count readings) (omega arith))

  pub room_enough : reading_count readings ≤ length buffer / 5 → run_to_readings r end budget readings buffer ≡ answered
  room_enough h = by_room false (le-ltb (length buffer) (5 * reading_count readings) (omega arith))

-- ---- what opening answers

module _ (job readings buffer : List ℕ) where
  abbrev run : Returned
  run = run_to_readings (opening job).after (described job).header.end (described job).header.budget readings buffer

  by_answer : (answer : Answer) → (opening job).answer ≡ answer →
      job_readings job readings buffer ≡ elim (refusal_of answer) [ Some cause ↦ refused_result cause buffer | None ↦ run ]
  unfolding job_readings
  by_answer answer e = ap (λ (a : Answer). elim (refusal_of a) as (λ _. Returned) [ Some cause ↦ refused_result cause buffer | None ↦ run ]) e

  pub readings_run : (opening job).answer ≡ Done → job_readings job readings buffer ≡ run
  unfolding refusal_of
  readings_run done = by_answer Done done

-- the numbers that are returned: 0, or one of 1 to 10 and 20
run_numbers : (r : Record) (end budget : ℕ) (readings buffer : List ℕ) → (run_to_readings r end budget readings buffer).number ≤ 10
unfolding refused_result
run_numbers r end budget readings buffer =
    elim (dec_le (reading_count readings) (length buffer / 5)) [
      | yes h ↦ rw (room_enough r end budget readings buffer h) (omega arith)
      | no n ↦ rw (no_room r end budget readings buffer (omega arith)) (omega arith)
    ]

pub readings_numbers : (job readings buffer : List ℕ) → KeyNumber (job_readings job readings buffer).number
unfolding refused_result refused_opening refusal_of
readings_numbers job readings buffer =
    ⊎_elim
    (λ (cause, (is, told)). rw (by_answer job readings buffer (Refused cause) (ap (λ (a : Answered). a.answer) is)) (opening-key cause told))
    (λ done.
    let most = run_numbers (opening job).after (described job).header.end (described job).header.budget readings buffer in
    rw (readings_run job readings buffer done) (inl most))
    (opening_numbered job)

-- ---- by what the key returns for the same job

module _ (job readings answers result : List ℕ) where
  abbrev short : Bool
  short = ltb (length answers / 5) (reading_count readings)

  abbrev end : ℕ
  end = (described job).header.end

  abbrev budget : ℕ
  budget = (described job).header.budget

  abbrev first : Record
  first = (opening job).after

  -- what both return, where the key has room for its result just where the answers have room for theirs
  pub record Alike : Type 0 where
    -- a number other than 0 is that of the refusal
    pub refused_alike : ((key job result).number ≡ 0 → ⊥) →
        job_readings job readings answers ≡ record { number = (key job result).number; buffer = answers }
    -- with 0 the job is opened, its result stored, and the answers have room
    pub is_done : (key job result).number ≡ 0 → (opening job).answer ≡ Done
    pub has_room : (key job result).number ≡ 0 → reading_count readings ≤ length answers / 5
    pub result_there : (key job result).number ≡ 0 → result_size first.layer.frame.elements ≤ length result

  opened_alike : (opening job).answer ≡ Done → (z : Bool) → short ≡ z → length result ≡ cond z 0 result_most → Alike
  unfolding refused_result result_size refusal_number
  opened_alike done true e long =
      let k = key_run job done result ∙ (key-no-room first end budget result (omega arith)).0 in
      let r = readings_run job readings answers done ∙ no_room first end budget readings answers (ltb-true (length answers / 5) (reading_count readings) e) in
      let ten : (key job result).number ≡ 10 = ap (λ (x : Returned). x.number) k in record {
        refused_alike = λ _. r ∙ rw k refl;
        is_done = λ z. done;
        has_room = λ z. absurd (omega arith);
        result_there = λ z. absurd (omega arith);
      }
  opened_alike done false e long =
      let few = (counted first (opened_layer job done)).1 in
      let enough : result_size first.layer.frame.elements ≤ length result = omega arith in
      let k = key_run job done result ∙ (key-room-enough first end budget result enough).0 in
      let zero : (key job result).number ≡ 0 = ap (λ (x : Returned). x.number) k in record {
        refused_alike = λ other. absurd (other zero);
        is_done = λ z. done;
        has_room = λ z. ltb-false (length answers / 5) (reading_count readings) e;
        result_there = λ z. enough;
      }

  pub alike : length result ≡ cond short 0 result_most → Alike
  unfolding refused_result refused_opening refusal_of
  alike long =
      ⊎_elim
      (λ (cause, is).
      let e = ap (λ (a : Answered). a.answer) is in
      let k = key-refused job result cause e in
      let number : (key job result).number ≡ refusal_number cause = ap (λ (x : Returned). x.number) k in
      let some = (cause_numbered cause).0 in record {
        refused_alike = λ _. by_answer job readings answers (Refused cause) e ∙ rw k refl;
        is_done = λ z. absurd (omega arith);
        has_room = λ z. absurd (omega arith);
        result_there = λ z. absurd (omega arith);
      })
      (λ done. opened_alike done short refl long)
      (opening_either job)

-- no result needs more room than the longest
pub room_most : (z : Bool) → cond z 0 result_most ≤ 5_176
unfolding result_size
room_most true = lit≤ tt
room_most false = lit≤ tt
