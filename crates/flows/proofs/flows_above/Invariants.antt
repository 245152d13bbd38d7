use mathlib.Core.Path.{◌≡◌}
use Rattle.element.specs.Elements.{flow_above}
use Rattle.numbers.specs.Arrays.{filled}
use Rattle.flows.proofs.flows_above.Given as goal

abbrev pub invariant-loop-j : goal.invariant-loop-j
invariant-loop-j l = l.above ≡ filled l.initial.above l.j (flow_above l.top l.t l.elements l.excess l.resistance)
