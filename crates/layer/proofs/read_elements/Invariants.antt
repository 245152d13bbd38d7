use mathlib.Core.Path.{◌≡◌}
use Rattle.layer.specs.Segments.{Segments}
use Rattle.layer.specs.Held.{held_of, excess_at, resistance_at}
use Rattle.numbers.specs.Arrays.{filled}
use Rattle.rules.specs.Record.{soil_of}
use Rattle.layer.proofs.read_elements.Given as goal

abbrev pub invariant-loop-j : goal.invariant-loop-j
invariant-loop-j l =
    let h = held_of (soil_of (record { compressibility = l.points; conductivity = l.conductivity_points }) l.void l.stress l.conductivity_void l.conductivity) l.elements l.load.0 l.burden l.solids l.water in
    (l.excess ≡ filled l.initial.excess l.j (excess_at h)) × (l.resistance ≡ filled l.initial.resistance l.j (resistance_at h)) ×
    Segments l.j l.points l.initial.stress_segment l.stress_segment × Segments l.j l.conductivity_points l.initial.conductivity_segment l.conductivity_segment
