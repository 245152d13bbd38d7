use Prim.Native.Nat.{◌≤◌}
use mathlib.Core.Path.{◌≡◌}
use Rattle.laws.specs.Most.{most_total_weight}
use Rattle.weights.specs.Weights.{weight_from, burden_at}
use Rattle.numbers.specs.Arrays.{filled}
use Rattle.weights.proofs.burdens.Given as goal

abbrev pub invariant-loop-j : goal.invariant-loop-j
invariant-loop-j l =
    (l.over ≡ weight_from l.gravity l.elements l.solids l.j) × (l.over ≤ most_total_weight) × (l.burden ≡ filled l.initial.burden l.j (burden_at l.gravity l.elements l.solids))
