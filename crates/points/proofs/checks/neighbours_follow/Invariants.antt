use Prim.Native.Nat.{◌-◌}
use lib.ListN.{drop}
use mathlib.Core.Path.{◌≡◌}
use Rattle.numbers.specs.Lists.{neighbours}
use Rattle.rules.specs.Curve.{points}
use Rattle.points.specs.Checks.{follows}
use Rattle.points.proofs.checks.neighbours_follow.Given as goal

abbrev pub invariant-loop-i : goal.invariant-loop-i
invariant-loop-i l =
    let all_points = points l.count l.xs l.ys in
    neighbours (follows l.trend) (drop (l.i - 1) all_points) ≡ neighbours (follows l.trend) all_points
