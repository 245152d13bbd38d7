use lib.IntN.{pos}
use lib.ListN.{get_or}
use mathlib.Core.List.{◌∷◌}
use mathlib.Core.Path.{◌≡◌}
use Rattle.water.specs.Water.{height_after}
use Rattle.numbers.specs.Arrays.{filled}
use Rattle.water.proofs.move_water.Given as goal

abbrev pub invariant-loop-j : goal.invariant-loop-j
invariant-loop-j l =
    (l.enters ≡ get_or (l.lowest ∷ l.above) l.j (pos 0)) × (l.water ≡ filled l.initial.water l.j (height_after l.lowest l.above l.initial.water))
