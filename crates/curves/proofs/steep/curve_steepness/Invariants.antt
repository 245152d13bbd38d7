use Prim.Native.Nat.{◌-◌, max}
use lib.ListN.{drop}
use mathlib.Core.Path.{◌≡◌}
use Rattle.rules.specs.Curve.{points, curve_steepness}
use Rattle.curves.proofs.steep.curve_steepness.Given as goal

abbrev pub invariant-loop-i : goal.invariant-loop-i
invariant-loop-i l =
    let curve = points l.count l.void l.stress in
    max l.most (curve_steepness (drop (l.i - 1) curve)) ≡ curve_steepness curve
