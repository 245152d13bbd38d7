use lib.ListN.{drop}
use mathlib.Core.Path.{◌≡◌}
use Rattle.numbers.specs.Lists.{all}
use Rattle.rules.specs.Curve.{points}
use Rattle.points.specs.Checks.{point_within}
use Rattle.points.proofs.checks.points_within.Given as goal

abbrev pub invariant-loop-i : goal.invariant-loop-i
invariant-loop-i g l =
    let test = point_within g.X.Quantity.LIMITS g.Y.Quantity.LIMITS in
    let all_points = points l.count l.xs l.ys in
    all test (drop l.i all_points) ≡ all test all_points
