use mathlib.Core.Path.{◌≡◌}
use Rattle.layer.specs.Held.{held_of}
use Rattle.rules.specs.Record.{soil_of}
use Rattle.steady_test.proofs.FlowsOver.{standing_at}
use Rattle.steady_test.specs.Extremes.{extremes_to}
use Rattle.steady_test.specs.Flows.{lowest_flow, flow_over}
use Rattle.steady_test.proofs.extremes.of_flows.Given as goal

abbrev pub invariant-loop-j : goal.invariant-loop-j
invariant-loop-j l =
    let h = held_of (soil_of (record { compressibility = l.points; conductivity = l.conductivity_points }) l.void l.stress l.conductivity_void l.conductivity) l.elements l.load.0 l.burden l.solids l.water in
    (l.here ≡ standing_at h l.j) × (l.extremes ≡ extremes_to (lowest_flow l.fn.bottom h) l.j (flow_over l.top h))
