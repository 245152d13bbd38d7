use Prim.Native.Nat.{ℕ}
use lib.ListN.{drop}
use mathlib.Core.Bool.{Bool}
use mathlib.Core.List.{List}
use mathlib.Core.Path.{◌≡◌}
use Rattle.numbers.specs.Lists.{all}
use Rattle.rules.specs.Curve.{Point, points, curve_at, is_on}
use Rattle.points.proofs.checks.covers.Given as goal

abbrev pub invariant-loop-i : goal.invariant-loop-i
invariant-loop-i l =
    let on : Point → Bool = λ p. is_on (curve_at (points l.count l.void l.conductivity) p.abscissa) in
    (stress : List ℕ) → let first = points l.first_count l.first_void stress in all on (drop l.i first) ≡ all on first
