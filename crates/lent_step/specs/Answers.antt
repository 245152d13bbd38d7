-- What a step on a layer that is lent answers.
use Rattle.std.specs.Prelude.{ℕ, List, Result, Ok, Err}
use Rattle.rules.specs.Record.{with_parts}
use Rattle.rules.specs.declared.answers.Answer.TheVariants.{Done, Refused}
use Rattle.rules.specs.declared.answers.Answered.{Answered}
use Rattle.rules.specs.declared.answers.Refusal.{Refusal}
use Rattle.rules.specs.declared.record.Progress.{Progress}
use Rattle.rules.specs.declared.record.Record.{Record}

-- what a step's answer says, with the water that it leaves
unfoldable pub step_answered : Record → Result Progress Refusal → (water : List ℕ) → Answered
step_answered r (Ok progress) water = record { answer = Done; after = with_parts r water progress }
step_answered r (Err cause) water = record { answer = Refused cause; after = with_parts r water r.layer.progress }
