-- What readings of a job return, and what is written for it.
use Prim.Native.Nat.{ℕ, ◌-◌, ◌*◌, ◌/◌, ◌≤◌}
use native.Mathlib.Nat.{add-sub_of_le}
use native.Mathlib.Omega.{arith}
use borrow.Author.Tests.{eq-eqb, ne_eqb}
use lib.Dec.{eqb}
use lib.ListN.{length, take, replicate, length-append, length-take, length-replicate, replicate-append-replicate}
use lib.Seq.{length-take-le, take_at}
use mathlib.Core.Bool.{Bool, true, false}
use mathlib.Core.List.{List, ◌++◌}
use mathlib.Core.Path.{◌≡◌, sym, ap, ◌∙◌}
use Rattle.key.specs.Readings.{job_readings}
use Rattle.numbers.specs.Arrays.{zeros, overlaid}
use Rattle.piezometer.specs.FieldOutput.{words_output, field_output}
use Rattle.rules.specs.Program.{refused_line}
use Rattle.rules.specs.Result.{Returned}
use Rattle.words.proofs.WordBytes.{length-words_in, length-bytes_of}
use Rattle.words.specs.Words.{words_in, bytes_of}

-- ---- what is written

-- the answers' bytes, or the refusal
abbrev written : Returned → (answered : Bool) → List ℕ
written x answered = elim answered [ true ↦ bytes_of x.buffer | false ↦ refused_line x.number ]

module _ (job readings buffer : List ℕ) (number : ℕ) (answers : List ℕ) (number_is : number ≡ (job_readings job readings buffer).number)
    (answers_are : answers ≡ (job_readings job readings buffer).buffer) where
  output_is : (answered : Bool) → eqb number 0 ≡ answered → words_output job readings buffer ≡ written (record { number = number; buffer = answers }) answered
  unfolding words_output
  output_is answered e =
      let x : Returned = record { number = number; buffer = answers } in
      let same : job_readings job readings buffer ≡ x = λ i. record { number = sym number_is i; buffer = sym answers_are i } in
      ap (λ (x : Returned). written x (eqb x.number 0)) same ∙ ap (λ (b : Bool). written x b) e

  -- number 0: the bytes of the answers
  pub answers_written : (out last : List ℕ) (size : ℕ) → number ≡ 0 → last ≡ overlaid (bytes_of answers) out → size ≡ 8 * length answers →
      (last ≡ overlaid (words_output job readings buffer) out) × (size ≡ length (words_output job readings buffer))
  answers_written out last size e stored sized =
      rw (output_is true (eq-eqb number 0 e)) (stored, sized ∙ sym (length-bytes_of answers))

  -- any other: the refusal
  pub refusal_written : (out last : List ℕ) (size : ℕ) → (number ≡ 0 → ⊥) →
      (last ≡ overlaid (refused_line number) out) × (size ≡ length (refused_line number)) →
      (last ≡ overlaid (words_output job readings buffer) out) × (size ≡ length (words_output job readings buffer))
  refusal_written out last size h line = rw (output_is false (ne_eqb number 0 h)) line

-- readings by their bytes
pub field_written : (job readings words blank out last : List ℕ) (size : ℕ) → words ≡ words_in (3 * (length readings / 24)) readings →
    blank ≡ zeros (5 * (length readings / 24)) →
    (last ≡ overlaid (words_output job words blank) out) × (size ≡ length (words_output job words blank)) →
    (last ≡ overlaid (field_output job readings) out) × (size ≡ length (field_output job readings))
unfolding field_output
field_written job readings words blank out last size w b line = rw (w, b) at line

-- ---- the fronts of arrays

-- what is no longer than a front is no longer than the array
pub front : (n : ℕ) (lent rest : List ℕ) → n ≤ length lent → n ≤ length (lent ++ rest)
front n lent rest h = simp length-append (omega arith)

-- words that are read into the front of an array
module _ (count : ℕ) (bytes array lent rest : List ℕ) (fits : count ≤ length array) (read : lent ≡ words_in (length (take count array)) bytes) where
  lent_is : lent ≡ words_in count bytes
  lent_is = read ∙ ap (λ (n : ℕ). words_in n bytes) (length-take-le count array fits)

  lent_length : length lent ≡ count
  lent_length = ap length lent_is ∙ length-words_in count bytes

  pub front_whole : count ≤ length (lent ++ rest)
  front_whole = front count lent rest (omega (arith, lent_length))

  pub front_read : take count (lent ++ rest) ≡ words_in count bytes
  front_read = take_at lent rest count lent_length ∙ lent_is

-- a front has at most its bytes
pub front_bytes : (n : ℕ) (array : List ℕ) (room : ℕ) → 8 * n ≤ room → 8 * length (take n array) ≤ room
front_bytes n array room h = simp length-take (omega arith)

-- the front of an array of zeros
pub front_zeros : (count size : ℕ) → count ≤ size → take count (replicate {A = ℕ} size 0) ≡ zeros count
unfolding zeros
front_zeros count size h =
    rw (← add-sub_of_le h, ← replicate-append-replicate {A = ℕ} count (size - count) 0)
    (take_at (replicate {A = ℕ} count 0) (replicate {A = ℕ} (size - count) 0) count (length-replicate {A = ℕ} count 0))
