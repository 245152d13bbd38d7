-- Document 02, note 1: a job that was written is read again, and a job that was read is written again.
use Rattle.std.specs.Prelude.{ℕ, ◌≤◌, length, take, get_or, List, ◌≡◌}
use Rattle.std.specs.Prelude.{Some}
use Rattle.numbers.specs.Arrays.{zeros, filled, overlaid}
use Rattle.numbers.specs.Bytes.{AreBytes}
use Rattle.rules.specs.Job.{Description, described}
use Rattle.rules.specs.Opening.{description_water, opened_record, opening}
use Rattle.rules.specs.declared.answers.Answer.TheVariants.{Done}
use Rattle.rules.specs.declared.answers.Refusal.{Refusal}
use Rattle.std.specs.Prelude.{Result, Ok}

-- an array of so many places with the first numbers of another, and 0 past them
unfoldable pub up_to : (size count : ℕ) → List ℕ → List ℕ
up_to size count array = filled (zeros size) count (λ i. get_or array i 0)

-- a description up to its counts: array places past a count are 0
unfoldable pub up_to_counts : Description → Description
up_to_counts d = record {
  header = d.header;
  solids = up_to 128 d.header.elements d.solids;
  water = up_to 128 d.header.elements d.water;
  compressibility_void = up_to 64 d.header.compressibility_points d.compressibility_void;
  compressibility_stress = up_to 64 d.header.compressibility_points d.compressibility_stress;
  conductivity_void = up_to 64 d.header.conductivity_points d.conductivity_void;
  conductivity = up_to 64 d.header.conductivity_points d.conductivity;
  table_time = up_to 64 d.header.table_points d.table_time;
  table_load = up_to 64 d.header.table_points d.table_load;
}

-- a job's bytes give a description again: they say the same up to its counts, opening accepts them, and its record is the
-- description's, opened with the water of the description's start
pub record ReadAgain (d : Description) (job : List ℕ) : Type 0 where
  pub described_again : described job ≡ up_to_counts d
  pub accepted_again : (opening job).answer ≡ Done
  pub water : List ℕ
  pub started_again : description_water d ≡ Some water
  pub opened_again : (opening job).after ≡ opened_record (up_to_counts d) water

-- both ways, of a description that was handed to the writer with a buffer, of its answer and of the buffer after it
pub record RoundTrips (d : Description) (before : List ℕ) (answer : Result ℕ Refusal) (after : List ℕ) : Type 0 where
  -- what is written is read again
  pub written_then_read : (size : ℕ) → answer ≡ Ok size → ReadAgain d (take size after)
  -- a job of bytes that opening accepts is written again from what it says, to the last byte
  pub read_then_written : (job : List ℕ) → AreBytes job → (opening job).answer ≡ Done → up_to_counts (described job) ≡ up_to_counts d →
      length job ≤ length before → (answer ≡ Ok (length job)) × (after ≡ overlaid job before)
