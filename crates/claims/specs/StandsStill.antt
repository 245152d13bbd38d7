-- What a setter may lean on: a layer that opened by start 2 stands still. Document 02, note 3.
use Rattle.std.specs.Prelude.{ℕ, pos, ◌-ℤ◌, get_or, List, ◌≡◌}
use Rattle.numbers.specs.Interval.{Within}
use Rattle.rules.specs.Calls.{called}
use Rattle.rules.specs.Job.{described}
use Rattle.rules.specs.Opening.{opening}
use Rattle.rules.specs.Record.{record_state}
use Rattle.rules.specs.Steady.{steady_seconds}
use Rattle.rules.specs.declared.answers.Answer.TheVariants.{Done}
use Rattle.rules.specs.declared.answers.Call.TheVariants.{Step}

-- no element's water changed by more than 1 nm
abbrev pub Still : (before after : List ℕ) → Type 0
Still before after = (j : ℕ) → Within (pos (get_or after j 0) -ℤ pos (get_or before j 0)) 1

-- Of a job that opening accepts with start 2: a step of 1,000 s on its record changes no element's water by more than 1 nm. A step
-- that is refused changes none.
abbrev pub StandsStill : (job : List ℕ) → Type 0
StandsStill job =
    (opening job).answer ≡ Done → (described job).header.start ≡ 2 →
    let r = (opening job).after in
    Still (record_state r).water (record_state (called r (Step steady_seconds)).after).water
