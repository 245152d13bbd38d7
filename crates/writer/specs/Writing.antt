-- Document 02, note 1: a description written as a job of version 1.
use Rattle.std.specs.Prelude.{ℕ, ltb, length, get_or, true, false, List, [], ◌∷◌, ◌++◌}
use Rattle.numbers.specs.Arrays.{tabulate, overlaid}
use Rattle.numbers.specs.Bytes.{bytes}
use Rattle.numbers.specs.Lists.{appended}
use Rattle.rules.specs.Job.{Description, job_length}
use Rattle.rules.specs.Opening.{accepted}
use Rattle.rules.specs.Refusals.{refusal_number}
use Rattle.rules.specs.Result.{word}
use Rattle.std.specs.Prelude.{Result, Ok, Err}
use Rattle.rules.specs.declared.answers.Refusal.{Refusal}
use Rattle.rules.specs.declared.answers.Refusal.TheVariants.{ShortJobBuffer}
use Rattle.rules.specs.declared.job.Header.{Header}

-- bytes 0 to 15: L S C, version 1, both faces, the four counts, the start, the specific gravity, and zeros
abbrev pub before_levels : Header → List ℕ
before_levels h =
    (76 ∷ 83 ∷ 67 ∷ []) ++ bytes 2 1 ++ bytes 1 h.top ++ bytes 1 h.bottom ++ bytes 1 h.elements ++
    bytes 1 h.compressibility_points ++ bytes 1 h.conductivity_points ++ bytes 1 h.table_points ++
    bytes 1 h.start ++ bytes 2 h.gravity ++ bytes 2 0

-- and both levels, the end and the budget
unfoldable pub header_bytes : Header → List ℕ
unfolding bytes
header_bytes h = before_levels h ++ word h.top_level ++ word h.bottom_level ++ word h.end ++ word h.budget

-- a pair of 64-bit fields
unfoldable pub pair_bytes : (first second : ℕ) → List ℕ
unfolding bytes
pair_bytes first second = word first ++ word second

-- so many pairs, from the first places of two arrays
unfoldable pub pairs_bytes : (count : ℕ) (firsts seconds : List ℕ) → List ℕ
unfolding appended tabulate pair_bytes
pairs_bytes count firsts seconds = appended (tabulate count (λ i. pair_bytes (get_or firsts i 0) (get_or seconds i 0)))

-- the bytes of a description's job: its header, its elements, the points of both curves and of the load table
unfoldable pub job_bytes : Description → List ℕ
unfolding header_bytes pairs_bytes
job_bytes d =
    header_bytes d.header ++
    pairs_bytes d.header.elements d.solids d.water ++
    pairs_bytes d.header.compressibility_points d.compressibility_stress d.compressibility_void ++
    pairs_bytes d.header.conductivity_points d.conductivity_void d.conductivity ++
    pairs_bytes d.header.table_points d.table_time d.table_load

-- what the writer answers, and the buffer as it is left
pub record Writing : Type 0 where
  pub answer : Result ℕ Refusal
  pub buffer : List ℕ

abbrev pub refused_writing : Refusal → (buffer : List ℕ) → Writing
refused_writing cause buffer = record { answer = Err cause; buffer = buffer }

-- refused for the causes 3, 5 to 9 and 20, then for 17; otherwise the job's bytes in the first places, and their length
unfoldable pub writing : Description → (buffer : List ℕ) → Writing
unfolding accepted job_length job_bytes overlaid
writing d buffer =
    elim (accepted d) [
      | Err cause ↦ refused_writing cause buffer
      | Ok layer ↦ elim (ltb (length buffer) (job_length d.header)) [
        | true ↦ refused_writing ShortJobBuffer buffer
        | false ↦ record { answer = Ok (job_length d.header); buffer = overlaid (job_bytes d) buffer }
      ]
    ]

-- an answer as one number: the job's length, or the paper's number of the refusal
unfoldable pub written_number : Result ℕ Refusal → ℕ
unfolding refusal_number
written_number (Ok length) = length
written_number (Err cause) = refusal_number cause

unfoldable pub writing_number : Description → (buffer : List ℕ) → ℕ
unfolding writing written_number
writing_number d buffer = written_number (writing d buffer).answer
