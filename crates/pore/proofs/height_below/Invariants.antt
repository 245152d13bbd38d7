use Prim.Native.Nat.{◌+◌, ◌*◌, ◌≤◌}
use mathlib.Core.Path.{◌≡◌}
use Rattle.numbers.specs.Arrays.{first_places}
use Rattle.quantities.specs.Quantities.{solids_limits, water_limits}
use Rattle.result_elements.proofs.Elements.{height_of}
use Rattle.pore.proofs.height_below.Given as goal

abbrev pub invariant-loop-j : goal.invariant-loop-j
invariant-loop-j l =
    (l.height ≡ height_of (first_places l.j l.solids) (first_places l.j l.water)) × (l.height ≤ (solids_limits.most + water_limits.most) * l.j)
