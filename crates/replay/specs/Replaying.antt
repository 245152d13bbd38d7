-- A replay: a job opened, calls made one after the other on its record, and every answer written to a slice.
use Rattle.std.specs.Prelude.{ℕ, List}
use Rattle.std.specs.Prelude.{None, Some}
use Rattle.numbers.specs.Arrays.{overlaid}
use Rattle.replay.specs.Words.{calls_in, all_words}
use Rattle.rules.specs.Calls.{Replay, replayed}
use Rattle.rules.specs.Opening.{opening, refused_opening}
use Rattle.rules.specs.Outcome.{refusal_of}
use Rattle.rules.specs.declared.answers.Answer.TheVariants.{Done}
use Rattle.rules.specs.declared.answers.Answered.{Answered}
use Rattle.rules.specs.declared.record.Record.{Record}

-- the calls of the words made on a record
unfoldable pub replay_on : Record → (words slice : List ℕ) → Replay
unfolding replayed calls_in
replay_on r words slice = replayed r (calls_in words slice)

-- the slice with the words of every answer in its first places
unfoldable pub written_on : Record → (words slice : List ℕ) → List ℕ
unfolding overlaid all_words replay_on
written_on r words slice = overlaid (all_words (replay_on r words slice).answers) slice

-- what a replay gives, and what it leaves in the slice
pub record Replaying : Type 0 where
  pub given : Answered
  pub slice : List ℕ

-- by what opening gave
unfoldable pub replay_opened : (opened : Answered) (words slice : List ℕ) → Replaying
unfolding refusal_of refused_opening replay_on written_on
replay_opened opened words slice =
    elim (refusal_of opened.answer) [
      | Some cause ↦ record { given = refused_opening cause; slice = slice }
      | None ↦ record {
        given = record { answer = Done; after = (replay_on opened.after words slice).after };
        slice = written_on opened.after words slice;
      }
    ]

abbrev pub replaying : (job words slice : List ℕ) → Replaying
replaying job words slice = replay_opened (opening job) words slice
