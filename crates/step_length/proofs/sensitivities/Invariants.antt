use lib.ListN.{get_or}
use mathlib.Core.Path.{◌≡◌}
use Rattle.numbers.specs.Arrays.{filled}
use Rattle.rules.specs.Layer as layer
use Rattle.step_length.proofs.sensitivities.Given as goal

abbrev pub invariant-loop-j : goal.invariant-loop-j
invariant-loop-j l = l.sensitivity ≡ filled l.initial.sensitivity l.j (λ i. layer.sensitivity (get_or l.solids i 0))
