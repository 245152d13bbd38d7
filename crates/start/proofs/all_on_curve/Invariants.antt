use Prim.Native.Nat.{ℕ}
use lib.ListN.{get_or}
use mathlib.Core.Bool.{Bool}
use mathlib.Core.List.{List}
use mathlib.Core.Path.{◌≡◌}
use Rattle.numbers.specs.Arrays.{every_index}
use Rattle.numbers.proofs.Indices.{rest_passes}
use Rattle.rules.specs.Curve.{Point, points, is_on}
use Rattle.rules.specs.Layer.{skeleton_of, effective_stress}
use Rattle.start.proofs.all_on_curve.Given as goal

-- element j is on the curve
abbrev pub on_at : (curve : List Point) (solids water : List ℕ) → ℕ → Bool
on_at curve solids water j = is_on (effective_stress (skeleton_of curve) (get_or solids j 0) (get_or water j 0))

abbrev pub invariant-loop-j : goal.invariant-loop-j
invariant-loop-j l =
    rest_passes l.elements (on_at (points l.skeleton.points l.void l.stress) l.solids l.water) l.j ≡ every_index l.elements (on_at (points l.skeleton.points l.void l.stress) l.solids l.water)
