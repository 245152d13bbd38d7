-- One pass of a run's loop on a layer: what it finds, and the layer after it.
use Rattle.std.specs.Prelude.{ℕ, zero, suc, ℤ, pos, get_or, List}
use Rattle.lent.specs.Progress.{loaded}
use Rattle.numbers.specs.Arrays.{filled}
use Rattle.rules.specs.Layer.{read_elements}
use Rattle.rules.specs.Load.{load_at}
use Rattle.quantities.specs.Quantities.{pressure}
use Rattle.rules.specs.Record.{record_site, record_state, with_parts, with_state}
use Rattle.rules.specs.Run.{longest_step, Turn, stops, goes, turn}
use Rattle.rules.specs.Step.{flows_above, stepped}
use Rattle.rules.specs.declared.record.Progress.{Progress}
use Rattle.rules.specs.declared.record.Record.{Record}
use Rattle.pass.specs.declared.Stopped.{Stopped}
use Rattle.std.specs.Prelude.{Result, Ok, Err}

-- the layer under the table's load
abbrev pub under_table : Record → Record
under_table r =
    let p = r.layer.progress in
    with_parts r r.layer.water (loaded p (pressure (load_at (record_site r).load_table p.clock.0)))

-- the longest step within reach, and what it leads to
abbrev pub longest : Record → (end : ℕ) → ℕ
longest r end = let u = under_table r in longest_step (record_site u) end (record_state u)

abbrev pub found : Record → (end : ℕ) → Turn
found r end = let u = under_table r in turn (record_site u) (record_state u) (longest r end)

-- a layer after it: as it was where it stops
unfoldable pub turned : Record → Turn → Record
unfolding with_state stepped
turned r (stops stop) = r
turned r (goes t) = with_state r (stepped (record_site r) t (record_state r))

-- the layer after the pass
abbrev pub passed : Record → (end : ℕ) → Record
passed r end = turned (under_table r) (found r end)

-- what the pass gives, by what it found
unfoldable pub passed_by : Turn → Progress → Result Progress Stopped
passed_by (stops stop) after = Err (record { stop = stop; progress = after })
passed_by (goes t) after = Ok after

-- the flows above the elements that it works out, where there is a step
unfoldable pub flows_turned : Record → (t : ℕ) (above : List ℤ) → List ℤ
unfolding filled flows_above read_elements
flows_turned r zero above = above
flows_turned r (suc t) above =
    filled above r.layer.frame.elements (λ j. get_or (flows_above r.layer.frame.top (suc t) (read_elements (record_site r) (record_state r))) j (pos 0))
