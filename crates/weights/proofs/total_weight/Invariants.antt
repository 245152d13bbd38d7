use Prim.Native.Nat.{◌+◌, ◌*◌, ◌≤◌}
use mathlib.Core.Path.{◌≡◌}
use Rattle.laws.specs.Most.{most_weight}
use Rattle.weights.specs.Weights.{weight_from}
use Rattle.weights.proofs.total_weight.Given as goal

abbrev pub invariant-loop-j : goal.invariant-loop-j
invariant-loop-j l =
    (l.total ≤ most_weight * l.j) × (l.total + weight_from l.gravity l.elements l.solids l.j ≡ weight_from l.gravity l.elements l.solids 0)
