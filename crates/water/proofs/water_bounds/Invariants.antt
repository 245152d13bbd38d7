use lib.ListN.{get_or}
use mathlib.Core.Path.{◌≡◌}
use Rattle.laws.specs.Bounds.{lowest_water, highest_water}
use Rattle.numbers.specs.Arrays.{filled}
use Rattle.water.proofs.water_bounds.Given as goal

abbrev pub invariant-loop-j : goal.invariant-loop-j
invariant-loop-j l =
    (l.low ≡ filled l.initial.low l.j (λ i. lowest_water (get_or l.solids i 0) l.least)) ×
    (l.high ≡ filled l.initial.high l.j (λ i. highest_water (get_or l.solids i 0) l.greatest))
