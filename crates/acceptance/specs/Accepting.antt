-- What accepting a description leaves in its arrays, and the progress of a layer just opened.
use Rattle.std.specs.Prelude.{ℕ, pos, List, []}
use Rattle.std.specs.Prelude.{Option, None, Some}
use Rattle.weights.specs.Weights.{burden_at}
use Rattle.numbers.specs.Arrays.{overlaid, filled}
use Rattle.rules.specs.Job.{Description}
use Rattle.rules.specs.Opening.{layer_causes}
use Rattle.rules.specs.Record.{progress_of}
use Rattle.rules.specs.Refusals.{first_cause}
use Rattle.rules.specs.declared.record.Progress.{Progress}

-- an array with the water of a start, or as it was where there is none
unfoldable pub water_started : Option (List ℕ) → (before : List ℕ) → List ℕ
unfolding overlaid
water_started None before = before
water_started (Some water) before = overlaid water before

-- an array with the burdens of a description, or as it was where one of the causes 3 and 5 to 8 holds
unfoldable pub accepted_burden : Description → (before : List ℕ) → List ℕ
unfolding first_cause layer_causes filled burden_at
accepted_burden d before =
    elim (first_cause (layer_causes d)) [
      | Some cause ↦ before
      | None ↦ filled before d.header.elements (burden_at d.header.gravity d.header.elements d.solids)
    ]

-- the progress of a layer just opened under a load
abbrev pub progress_at : (load : ℕ) → Progress
progress_at load = progress_of (record { water = []; load = pos load; clock = 0; top_outflow = pos 0; bottom_outflow = pos 0 })
