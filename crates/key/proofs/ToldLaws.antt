-- What the bytes of a layer's result tell: its elements, their pore pressures, and so the answer to any reading of it.
use Prim.Native.Nat.{ℕ, suc, ◌+◌, ◌-◌, ◌*◌, ◌^◌, ◌≤◌, ◌<◌}
use native.Mathlib.Nat.{mod-eq_of_lt, add-zero}
use native.Mathlib.Omega.{arith}
use lib.IntN.{ℤ, pos, negsuc}
use lib.ListN.{length, take, drop}
use mathlib.Core.Bool.{Bool, true, false, cond}
use mathlib.Core.List.{List}
use mathlib.Core.Path.{◌≡◌, refl, sym, ap, ◌∙◌}
use mir.Syntax.{w64}
use mir.Val.{SFits}
use Rattle.encoding.proofs.Signed.{signed_number_low, signed_number_high}
use Rattle.field_data.proofs.WordLaws.{answers_same}
use Rattle.field_data.specs.Words.{elements_in, pore_in, Told, compared_in, answers_in, answers_on}
use Rattle.key.proofs.KeyLaws.{opened_layer, opened_clock, end_and_budget, key_run}
use Rattle.key.proofs.KeyLaws.{room_enough as key-room-enough}
use Rattle.key.proofs.Layers.{ended_layer, ended_elements}
use Rattle.key.proofs.ReadingLaws.{Alike, readings_run, room_enough}
use Rattle.key.proofs.SameKey.{pore_in-result}
use Rattle.key.specs.Readings.{job_readings}
use Rattle.lent.proofs.Standing.{counted}
use Rattle.numbers.proofs.Filled.{length-overlaid}
use Rattle.numbers.proofs.Interval.{within_fits}
use Rattle.numbers.proofs.LittleEndian.{number_bytes_lt, part_front}
use Rattle.numbers.proofs.Searches.{passed}
use Rattle.numbers.proofs.Signed.{fits_up, fits_down}
use Rattle.numbers.specs.Arrays.{overlaid}
use Rattle.numbers.specs.Bytes.{number, field, signed_number}
use Rattle.numbers.specs.Integers.{signed_field}
use Rattle.pore.proofs.Heights.{pore_range}
use Rattle.pore.specs.Pore.{element_pore}
use Rattle.quantities.proofs.Limits.{within_parts}
use Rattle.quantities.specs.Quantities.{from◌to◌, within}
use Rattle.readings.specs.declared.Reading.{Reading}
use Rattle.record_reading.proofs.ComparedLaws.{no_element, taken}
use Rattle.record_reading.specs.Comparison.{against, compared}
use Rattle.readings.specs.Conversion.{conversion}
use Rattle.std.specs.Prelude.{Err}
use Rattle.result.proofs.ResultLaws.{result-length}
use Rattle.rules.specs.Calls.{Ending, ended_run}
use Rattle.rules.specs.Job.{described}
use Rattle.rules.specs.Key.{key}
use Rattle.rules.specs.Opening.{opening}
use Rattle.rules.specs.Record.{is_layer}
use Rattle.rules.specs.Result.{Returned, result_head, result_bytes, result_size}
use Rattle.rules.specs.declared.answers.Answer.TheVariants.{Done}
use Rattle.rules.specs.declared.answers.Refusal.TheVariants.{ElementOutside}
use Rattle.rules.specs.declared.answers.Stop.{Stop}
use Rattle.rules.specs.declared.record.Record.{Record}

-- the bits of a signed number give it back
bits_back : (z : ℤ) → SFits w64 z → signed_number (signed_field z) ≡ z
bits_back (pos n) h = signed_number_low n (fits_up (pos n) h)
bits_back (negsuc n) h =
    let least = fits_down (negsuc n) h in
    signed_number_high (2 ^ 64 - suc n) (omega arith) ∙ ap negsuc (omega arith)

bits_few : (z : ℤ) → SFits w64 z → signed_field z < 256 ^ 8
bits_few (pos n) h = let most = fits_up (pos n) h in omega arith
bits_few (negsuc n) h = omega arith

-- byte 6 of a result
sixth : (r : Record) (stop : Stop) (steps : ℕ) → r.layer.frame.elements < 256 → field 1 6 (result_bytes r stop steps) ≡ r.layer.frame.elements
unfolding result_bytes result_head field number
sixth r stop steps h = rw (mod-eq_of_lt h) (add-zero r.layer.frame.elements)

module _ (a : Record) (is : is_layer a ≡ true) (stop : Stop) (steps : ℕ) (before bytes : List ℕ)
    (stored : bytes ≡ overlaid (result_bytes a stop steps) before) (room : result_size a.layer.frame.elements ≤ length before) where
  abbrev n : ℕ
  n = a.layer.frame.elements

  -- the bytes begin with the result
  part : (size offset : ℕ) → offset + size ≤ result_size n → take size (drop offset bytes) ≡ take size (drop offset (result_bytes a stop steps))
  unfolding overlaid
  part size offset h =
      ap (λ (l : List ℕ). take size (drop offset l)) stored ∙
      part_front size offset (result_bytes a stop steps) _ (rw (result-length a stop steps) h)

  elements_told : elements_in bytes ≡ n
  unfolding field result_size
  elements_told = let few = (counted a is).1 in ap number (part 1 6 (omega arith)) ∙ sixth a stop steps (omega arith)

  pore_told : (j : ℕ) → j < n → pore_in bytes j ≡ element_pore a j
  unfolding field result_size
  pore_told j h =
      let z = element_pore a j in
      let fits = within_fits tt (pore_range a is j h) in
      ap signed_number
      (ap number (part 8 (56 + (40 * j + 32)) (omega arith) ∙ pore_in-result a stop steps j h) ∙ number_bytes_lt 8 (signed_field z) (bits_few z fits)) ∙
      bits_back z fits

  pub told : Told bytes
  unfolding result_size
  told = record {
    whole =
        rw elements_told
        (rw (stored, length-overlaid (result_bytes a stop steps) before (rw (result-length a stop steps) room)) room);
    in_range = λ j h. let k = rw elements_told at h in rw (pore_told j k) (pore_range a is j k);
  }

  compared_told : (element : ℕ) (x : Reading) → compared_in bytes element x ≡ compared a element x
  compared_told element x = rw elements_told (go (within (from 1 to n) element) refl)
    where
      go : (z : Bool) → within (from 1 to n) element ≡ z →
          cond z (against (pore_in bytes (element - 1)) (conversion x)) (Err ElementOutside) ≡ compared a element x
      go true e =
          let (least, most) = within_parts (from 1 to n) element (passed e) in
          ap (λ (pore : ℤ). against pore (conversion x)) (pore_told (element - 1) (omega arith)) ∙ sym (taken a element x is e)
      go false e = sym (no_element a element x is e)

  -- so are all answers
  pub answers_told : (readings : List ℕ) → answers_in bytes readings ≡ answers_on a readings
  unfolding answers_on
  answers_told readings = answers_same (compared_in bytes) (compared a) compared_told readings

-- ---- the key of a job that returns 0, where the answers have room

module _ (job readings answers result : List ℕ) (is : Alike job readings answers result) (zero : (key job result).number ≡ 0) where
  abbrev done : (opening job).answer ≡ Done
  done = is.is_done zero

  abbrev first : Record
  first = (opening job).after

  abbrev end : ℕ
  end = (described job).header.end

  abbrev budget : ℕ
  budget = (described job).header.budget

  abbrev run : Ending
  run = ended_run first end budget

  after_layer : is_layer run.after ≡ true
  after_layer =
      let at-0 = opened_clock job done in
      ended_layer first end budget (opened_layer job done) (omega arith) (end_and_budget job done).0

  key_stored : (key job result).buffer ≡ overlaid (result_bytes run.after run.stop run.steps) result
  key_stored = ap (λ (x : Returned). x.buffer) (key_run job done result ∙ (key-room-enough first end budget result (is.result_there zero)).0)

  roomy : result_size run.after.layer.frame.elements ≤ length result
  roomy = rw (ended_elements first end budget) (is.result_there zero)

  pub key_told : Told (key job result).buffer
  key_told = told run.after after_layer run.stop run.steps result (key job result).buffer key_stored roomy

  -- what is answered by it is what is asked
  pub key_answers : record { number = 0; buffer = overlaid (answers_in (key job result).buffer readings) answers } ≡ job_readings job readings answers
  key_answers =
      ap (λ (l : List ℕ). record { number = 0; buffer = overlaid l answers })
      (answers_told run.after after_layer run.stop run.steps result (key job result).buffer key_stored roomy readings) ∙
      sym (readings_run job readings answers done ∙ room_enough first end budget readings answers (is.has_room zero))
