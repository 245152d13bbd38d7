use Prim.Native.Nat.{◌-◌}
use lib.ListN.{length}
use mathlib.Core.Path.{◌≡◌}
use Rattle.rules.specs.Record.{soil_of, layer_of, record_of}
use Rattle.pass.proofs.Reached.{Reached}
use Rattle.passes.proofs.passes.Given as goal

abbrev pub invariant-loop-now : goal.invariant-loop-now
invariant-loop-now l =
    let r = record_of (soil_of l.counts l.void l.stress l.conductivity_void l.conductivity) (layer_of l.frame l.initial.now l.solids l.initial.water l.table_time l.table_load) in
    Reached r l.end l.budget l.water l.now l.steps × (length l.excess ≡ 128) × (length l.resistance ≡ 128) × (length l.above ≡ 128) ×
    (length l.stress_segment ≡ 128) × (length l.conductivity_segment ≡ 128)

abbrev pub decreases-loop-now : goal.decreases-loop-now
decreases-loop-now l = l.budget - l.steps
