-- The third program: what it writes for what it reads.
use Rattle.std.specs.Prelude.{ℕ, ltb, take, true, false, List}
use Rattle.numbers.specs.Arrays.{zeros}
use Rattle.rules.specs.Job.{header_length}
use Rattle.rules.specs.Program.{refused_line}
use Rattle.words.specs.Words.{words_length, words_in, written_words}

-- the length of the longest job: 128 elements, and 64 points of each curve and of the load table
abbrev pub job_most : ℕ
job_most = 5_168

-- the bytes of the job that the input's words say, or the refusal
unfoldable pub composed : (input : List ℕ) → List ℕ
unfolding words_in written_words zeros refused_line
composed input =
    let returned = written_words (words_in words_length input) (zeros job_most) in
    elim (ltb returned.number header_length) [
      | true ↦ refused_line returned.number
      | false ↦ take returned.number returned.buffer
    ]
