-- Term 3's claim of a replay.
use Rattle.std.specs.Prelude.{ℕ, List, ◌≡◌}
use Rattle.std.specs.Prelude.{Some}
use Rattle.claims.specs.Term3.{Term3}
use Rattle.numbers.specs.Arrays.{overlaid}
use Rattle.replay.specs.Words.{calls_in, all_words}
use Rattle.rules.specs.Job.{described, job_site}
use Rattle.rules.specs.Opening.{description_water}
use Rattle.rules.specs.Tally.{begun, course}
use Rattle.rules.specs.declared.answers.Answer.{Answer}
use Rattle.rules.specs.declared.record.Record.{Record}

-- Of the job and the calls of the words, term 3 holds of the last record and of the answers whose words stand in the slice.
pub record Claim (job words slice : List ℕ) (after : Record) (out : List ℕ) : Type 0 where
  pub answers : List Answer
  pub written : out ≡ overlaid (all_words answers) slice
  pub water : List ℕ
  pub starts : description_water (described job) ≡ Some water
  pub holds :
      let site = job_site (described job) in
      Term3 site (begun site water) (course site (calls_in words slice) (begun site water)) answers after
