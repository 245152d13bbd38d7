-- The water array after a run to a result.
use Rattle.std.specs.Prelude.{ℕ, ltb, length, true, false, List}
use Rattle.rules.specs.Calls.{ended_run}
use Rattle.rules.specs.Result.{result_size}
use Rattle.rules.specs.declared.record.Record.{Record}

-- as it was where there is no room for a result, and so no run; else as the run leaves it
unfoldable pub water_run : Record → (end budget : ℕ) (buffer : List ℕ) → List ℕ
unfolding result_size ended_run
water_run r end budget buffer =
    elim (ltb (length buffer) (result_size r.layer.frame.elements)) [
      | true ↦ r.layer.water
      | false ↦ (ended_run r end budget).after.layer.water
    ]
