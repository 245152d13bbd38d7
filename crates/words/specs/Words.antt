-- A description by its words, numbers of 64 bits: those of the header, then each array at its place. A word past the last is 0.
use Rattle.std.specs.Prelude.{ℕ, ◌+◌, ◌≤◌, length, take, get_or, List, map, ◌≡◌}
use Rattle.description.specs.Lent.{description_of}
use Rattle.numbers.specs.Arrays.{overlaid, tabulate}
use Rattle.numbers.specs.Bytes.{AreBytes, bytes, column}
use Rattle.numbers.specs.Lists.{appended}
use Rattle.rules.specs.Job.{Description, described, header_length}
use Rattle.rules.specs.Opening.{opening}
use Rattle.rules.specs.Result.{Returned}
use Rattle.rules.specs.declared.answers.Answer.TheVariants.{Done}
use Rattle.rules.specs.declared.job.Header.{Header}
use Rattle.writer.specs.RoundTrips.{ReadAgain, up_to_counts}
use Rattle.writer.specs.Writing.{writing, writing_number}

-- where each array begins: two of 128 places, and six of 64
abbrev pub solids_at : ℕ
solids_at = 12

abbrev pub water_at : ℕ
water_at = 140

abbrev pub stress_at : ℕ
stress_at = 268

abbrev pub void_at : ℕ
void_at = 332

abbrev pub conductivity_void_at : ℕ
conductivity_void_at = 396

abbrev pub conductivity_at : ℕ
conductivity_at = 460

abbrev pub table_time_at : ℕ
table_time_at = 524

abbrev pub table_load_at : ℕ
table_load_at = 588

-- how many words there are
abbrev pub words_length : ℕ
words_length = 652

-- so many words of bytes, eight each, lowest first; bytes past the last count as 0
unfoldable pub words_in : (count : ℕ) (bytes : List ℕ) → List ℕ
unfolding tabulate column
words_in count bytes = tabulate count (column 8 0 bytes)

-- the bytes of words, eight each, lowest first
unfoldable pub bytes_of : (words : List ℕ) → List ℕ
unfolding appended bytes
bytes_of words = appended (map (bytes 8) words)

-- so many words from a place on
unfoldable pub places_from : (at size : ℕ) (words : List ℕ) → List ℕ
unfolding tabulate
places_from at size words = tabulate size (λ i. get_or words (at + i) 0)

-- words 0 to 11
unfoldable pub words_header : List ℕ → Header
words_header words =
    record {
      top = get_or words 0 0;
      bottom = get_or words 1 0;
      elements = get_or words 2 0;
      compressibility_points = get_or words 3 0;
      conductivity_points = get_or words 4 0;
      table_points = get_or words 5 0;
      start = get_or words 6 0;
      gravity = get_or words 7 0;
      top_level = get_or words 8 0;
      bottom_level = get_or words 9 0;
      end = get_or words 10 0;
      budget = get_or words 11 0;
    }

unfoldable pub words_description : List ℕ → Description
unfolding words_header places_from
words_description words =
    description_of (words_header words) (places_from void_at 64 words) (places_from stress_at 64 words)
    (places_from conductivity_void_at 64 words) (places_from conductivity_at 64 words) (places_from solids_at 128 words)
    (places_from water_at 128 words) (places_from table_time_at 64 words) (places_from table_load_at 64 words)

-- what writing their description returns: the job's length or the refusal's number, and the buffer as it is left
unfoldable pub written_words : (words buffer : List ℕ) → Returned
unfolding words_description writing writing_number
written_words words buffer =
    let d = words_description words in record { number = writing_number d buffer; buffer = (writing d buffer).buffer }

-- both round trips of their description, by the buffer before the call, the number that is returned and the buffer after it
pub record WordsTrips (words before : List ℕ) (number : ℕ) (after : List ℕ) : Type 0 where
  -- what is written is read again; a number below a header's length is a refusal's
  pub written_then_read : header_length ≤ number → ReadAgain (words_description words) (take number after)
  -- a job of bytes that opening accepts is written again from what it says
  pub read_then_written : (job : List ℕ) → AreBytes job → (opening job).answer ≡ Done →
      up_to_counts (described job) ≡ up_to_counts (words_description words) → length job ≤ length before →
      (number ≡ length job) × (after ≡ overlaid job before)
