use Prim.Native.Nat.{◌-◌, ◌≤◌}
use lib.ListN.{drop}
use mathlib.Core.List.{[]}
use mathlib.Core.Path.{◌≡◌}
use Rattle.laws.specs.Shorten.{shortened}
use Rattle.element.specs.Elements.{elements_in}
use Rattle.quantities.specs.Quantities.{step_limits}
use Rattle.rules.specs.Step.{contacts_above}
use Rattle.step_length.specs.Reach.{longest_within}
use Rattle.step_length.proofs.longest.Given as goal

abbrev pub invariant-loop-j : goal.invariant-loop-j
invariant-loop-j l =
    (l.t ≤ step_limits.most) ×
    (shortened l.steepness l.t (contacts_above l.fn.top (drop (l.j - 1) (elements_in l.elements [] l.resistance l.sensitivity))) ≡
    longest_within l.fn.top l.fn.bottom l.steepness l.elements l.resistance l.sensitivity l.most)
