-- The fourth program: what it writes for what it reads.
use Rattle.std.specs.Prelude.{ℕ, ◌*◌, ◌/◌, eqb, length, true, false, List}
use Rattle.key.specs.Readings.{job_readings}
use Rattle.numbers.specs.Arrays.{zeros}
use Rattle.rules.specs.Program.{refused_line}
use Rattle.words.specs.Words.{words_in, bytes_of}

-- the bytes of 1,024 readings, and those of their answers
abbrev pub readings_most : ℕ
readings_most = 24_576

abbrev pub answers_most : ℕ
answers_most = 40_960

-- the bytes of the answers to readings by their words, told in a buffer, or the refusal
unfoldable pub words_output : (job readings buffer : List ℕ) → List ℕ
unfolding job_readings bytes_of refused_line
words_output job readings buffer =
    let returned = job_readings job readings buffer in
    elim (eqb returned.number 0) [
      | true ↦ bytes_of returned.buffer
      | false ↦ refused_line returned.number
    ]

-- the same for readings by their bytes, 24 each, with room for just their answers; one that lacks bytes is none
unfoldable pub field_output : (job readings : List ℕ) → List ℕ
unfolding words_output words_in zeros
field_output job readings =
    let count = length readings / 24 in words_output job (words_in (3 * count) readings) (zeros (5 * count))
