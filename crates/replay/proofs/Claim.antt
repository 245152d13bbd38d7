-- Term 3's claim of a replay holds.
use Prim.Native.Nat.{ℕ}
use mathlib.Core.List.{List}
use mathlib.Core.Path.{◌≡◌}
use Rattle.claims.proofs.Term3.{term3}
use Rattle.replay.specs.Replaying.{replay_on, written_on}
use Rattle.replay.specs.Words.{calls_in}
use Rattle.rules.specs.Calls.{replayed}
use Rattle.rules.specs.Opening.{opening}
use Rattle.rules.specs.declared.answers.Answer.TheVariants.{Done}
use Rattle.rules.specs.declared.answers.Answered.{Answered}
use Rattle.rules.specs.declared.record.Record.{Record}
use Rattle.replay.specs.Claim.{Claim}

pub claimed : (job words slice : List ℕ) (o : Answered) → o ≡ opening job → o.answer ≡ Done → (after : Record) (out : List ℕ) →
    after ≡ (replay_on o.after words slice).after → out ≡ written_on o.after words slice → Claim job words slice after out
unfolding replay_on written_on
claimed job words slice o opens done after out e k =
    let calls = calls_in words slice in
    let (water, starts, holds) = term3 job calls (rw (← opens) done) in
    record {
      answers = (replayed (opening job).after calls).answers;
      written = rw (← opens) k;
      water = water;
      starts = starts;
      holds = rw (e, opens) holds;
    }
