use Prim.Native.Nat.{ℕ, ◌<◌}
use Rattle.std.specs.Prelude.{Some}
use mathlib.Core.Path.{◌≡◌}
use Rattle.numbers.specs.Arrays.{filled}
use Rattle.rules.specs.Curve.{points}
use Rattle.rules.specs.Layer.{skeleton_of}
use Rattle.start.proofs.Filling.{resting_at, height_at}
use Rattle.start.proofs.resting_waters.Given as goal

abbrev pub invariant-loop-j : goal.invariant-loop-j
invariant-loop-j l =
    (l.water ≡ filled l.initial.water l.j (height_at (skeleton_of (points l.skeleton.points l.void l.stress)) l.load l.burden l.solids)) ×
    ((i : ℕ) → i < l.j → resting_at (skeleton_of (points l.skeleton.points l.void l.stress)) l.load l.burden l.solids i ≡ Some (height_at (skeleton_of (points l.skeleton.points l.void l.stress)) l.load l.burden l.solids i))
