use Prim.Native.Nat.{◌+◌}
use lib.ListN.{drop}
use mathlib.Core.Path.{◌≡◌}
use Rattle.rules.specs.Curve.{points, curve_at, segment_at}
use Rattle.curves.proofs.reading.read_from_first.Given as goal

abbrev pub invariant-loop-i : goal.invariant-loop-i
invariant-loop-i l =
    (curve_at (drop l.i (points l.count l.xs l.ys)) l.x ≡ curve_at (points l.count l.xs l.ys) l.x) ×
    (segment_at (points l.count l.xs l.ys) l.x ≡ l.i + segment_at (drop l.i (points l.count l.xs l.ys)) l.x)
