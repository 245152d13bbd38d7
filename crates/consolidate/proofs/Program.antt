-- What the key returns, and what is written for it.
use Prim.Native.Nat.{ℕ, ◌≤◌}
use native.Mathlib.Omega.{arith}
use borrow.Author.Tests.{eq-eqb, ne_eqb}
use lib.Dec.{eqb, ltb, nltb→le}
use lib.ListN.{length, take, length-replicate}
use lib.Seq.{take_all, length-take-le}
use mathlib.Core.Bool.{Bool, true, false, not}
use mathlib.Core.Logic.{⊎_elim}
use mathlib.Core.List.{List}
use mathlib.Core.Path.{◌≡◌, refl, sym, ap, ◌∙◌}
use Rattle.answers.proofs.Causes.{cause_numbered}
use Rattle.claims.proofs.Described.{described_sound}
use Rattle.claims.proofs.Causes.{neither, none_holds}
use Rattle.claims.proofs.Opened.{opening_either, opened}
use Rattle.laws.specs.Every.{Every}
use Rattle.laws.proofs.SoundHeader.{kept_header}
use Rattle.key.proofs.KeyLaws.{key-refused, key_leaves}
use Rattle.numbers.specs.Arrays.{zeros, overlaid}
use Rattle.rules.specs.Job.{described, header_length, marked, framing_causes, job_causes}
use Rattle.rules.specs.Key.{key}
use Rattle.rules.specs.Opening.{refused_opening, opening}
use Rattle.rules.specs.Program.{refused_line, input_most, program_output}
use Rattle.quantities.specs.Quantities.{element_limits}
use Rattle.rules.specs.Refusals.{refusal_number}
use Rattle.rules.specs.Result.{Returned, refused_result, result_size, result_most}
use Rattle.rules.specs.declared.answers.Answer.TheVariants.{Done}
use Rattle.rules.specs.declared.answers.Answered.{Answered}

-- ---- a job whose key has number 0

module _ (job buffer : List ℕ) (e : (key job buffer).number ≡ 0) where
  -- opening accepted it
  accepted : (opening job).answer ≡ Done
  unfolding refused_result refused_opening
  accepted =
      ⊎_elim
      (λ (cause, is).
      let (numbered, _) = cause_numbered cause in
      let refused = key-refused job buffer cause (ap (λ (a : Answered). a.answer) is) in
      let same : refusal_number cause ≡ 0 = sym (ap (λ (x : Returned). x.number) refused) ∙ e in
      absurd (omega arith))
      (λ done. done) (opening_either job)

  -- it has a whole header
  pub whole : header_length ≤ length job
  unfolding job_causes framing_causes Every
  whole =
      let short = ltb (length job) header_length in
      nltb→le (length job) header_length (neither short (not (marked job)) (none_holds (job_causes job) (opened job accepted).no_cause).0).0

  -- which says at most 128 elements
  pub elements_few : (described job).header.elements ≤ element_limits.most
  elements_few = (kept_header (described job).header (described_sound job (opened job accepted).no_cause).header).elements_kept.most

  -- whose result is no longer than the longest
  pub size_few : result_size (described job).header.elements ≤ result_most
  unfolding result_size
  size_few = omega (arith, elements_few)

-- ---- what is written

-- the result's bytes, or the refusal
abbrev written : (job : List ℕ) → Returned → (accepted : Bool) → List ℕ
written job x accepted =
    elim accepted [
      | true ↦ take (result_size (described job).header.elements) x.buffer
      | false ↦ refused_line x.number
    ]

module _ (job : List ℕ) (short : length job ≤ input_most) where
  abbrev returned : Returned
  returned = key job (zeros result_most)

  output_is : program_output job ≡ written job returned (eqb returned.number 0)
  unfolding program_output
  output_is =
      ap (λ (j : List ℕ). let x = key j (zeros result_most) in written j x (eqb x.number 0)) (take_all input_most job short)

  by_test : (b : Bool) → eqb returned.number 0 ≡ b → program_output job ≡ written job returned b
  by_test b e = output_is ∙ ap (λ (b : Bool). written job returned b) e

-- a blank buffer's length
pub room_is : {buffer : List ℕ} → buffer ≡ zeros result_most → length buffer ≡ result_most
unfolding zeros
room_is blank = rw blank (length-replicate {A = ℕ} result_most 0)

-- what a key in a blank buffer has written
module _ (job buffer : List ℕ) (short : length job ≤ input_most) (blank : buffer ≡ zeros result_most) (number : ℕ) (out : List ℕ)
    (number_is : number ≡ (key job buffer).number) (out_is : out ≡ (key job buffer).buffer) where
  -- number 0: the first bytes of the buffer
  front_is : (size : ℕ) → number ≡ 0 → size ≡ result_size (described job).header.elements → take size out ≡ program_output job
  front_is size e s =
      let zero : (key job (zeros result_most)).number ≡ 0 = rw (← blank) (sym number_is ∙ e) in
      rw (s, out_is, blank) (sym (by_test job short true (eq-eqb _ 0 zero)))

  pub result_written : (size : ℕ) → number ≡ 0 → size ≡ result_size (described job).header.elements → length out ≡ length buffer →
      (out ≡ overlaid (program_output job) buffer) × (size ≡ length (program_output job))
  result_written size e s kept =
      let front = front_is size e s in
      let few = size_few job buffer (sym number_is ∙ e) in
      let fits : size ≤ length out = omega (arith, s, few, room_is blank, kept) in
      (rw (← front, s, out_is) (key_leaves job buffer).past, rw (← front) (sym (length-take-le size out fits)))

  -- any other: the refusal
  refusal_is : (number ≡ 0 → ⊥) → refused_line number ≡ program_output job
  refusal_is h =
      let same : number ≡ (key job (zeros result_most)).number = rw (← blank) number_is in
      rw same (sym (by_test job short false (ne_eqb _ 0 (λ z. h (same ∙ z)))))

  pub refusal_written : (last : List ℕ) (size : ℕ) → (number ≡ 0 → ⊥) →
      (last ≡ overlaid (refused_line number) out) × (size ≡ length (refused_line number)) →
      (last ≡ overlaid (program_output job) buffer) × (size ≡ length (program_output job))
  refusal_written last size h line =
      let left : out ≡ buffer = out_is ∙ (key_leaves job buffer).refused_whole (rw number_is at h) in
      (line.0 ∙ rw (refusal_is h, left) refl, line.1 ∙ ap length (refusal_is h))
