use lib.IntN.{pos}
use lib.ListN.{get_or}
use mathlib.Core.List.{◌∷◌}
use mathlib.Core.Path.{◌≡◌}
use Rattle.water.specs.Water.{stays_at}
use Rattle.numbers.specs.Arrays.{every_index}
use Rattle.numbers.proofs.Indices.{rest_passes}
use Rattle.water.proofs.stays_between.Given as goal

abbrev pub invariant-loop-j : goal.invariant-loop-j
invariant-loop-j l =
    let test = stays_at l.lowest l.above l.water l.low l.high in
    (l.enters ≡ get_or (l.lowest ∷ l.above) l.j (pos 0)) × (rest_passes l.elements test l.j ≡ every_index l.elements test)
