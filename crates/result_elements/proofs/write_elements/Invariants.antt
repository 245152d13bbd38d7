use Prim.Native.Nat.{◌+◌, ◌*◌, ◌≤◌}
use lib.Seq.{sets}
use mathlib.Core.Path.{◌≡◌}
use Rattle.numbers.specs.Arrays.{first_places}
use Rattle.result_elements.proofs.Elements.{height_of}
use Rattle.rules.specs.Curve.{points}
use Rattle.quantities.specs.Quantities.{solids_limits, water_limits}
use Rattle.rules.specs.Result.{elements_bytes}
use Rattle.rules.specs.Layer.{skeleton_of}
use Rattle.result_elements.proofs.write_elements.Given as goal

abbrev pub invariant-loop-j : goal.invariant-loop-j
invariant-loop-j l =
    (l.out ≡ sets l.initial.out 56 (elements_bytes (skeleton_of (points l.skeleton.points l.void l.stress)) l.top_level.0 l.load.0 0 (first_places l.j l.burden) (first_places l.j l.solids) (first_places l.j l.water))) ×
    (l.below ≡ height_of (first_places l.j l.solids) (first_places l.j l.water)) × (l.below ≤ (solids_limits.most + water_limits.most) * l.j)
