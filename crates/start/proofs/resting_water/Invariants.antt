use Prim.Native.Nat.{ℕ, ◌-◌, ◌≤◌, ◌<◌}
use lib.Dec.{T}
use Rattle.rules.specs.Curve.{points}
use Rattle.start.proofs.AtRest.{rests_at}
use Rattle.start.proofs.resting_water.Given as goal

abbrev pub invariant-loop-low : goal.invariant-loop-low
invariant-loop-low l =
    (l.low ≤ l.high) × (l.high ≤ l.initial.high) × T (rests_at (points l.skeleton.points l.void l.stress) l.solids l.most l.high) ×
    ((U : ℕ) → U < l.low → T (rests_at (points l.skeleton.points l.void l.stress) l.solids l.most U) → ⊥)

abbrev pub decreases-loop-low : goal.decreases-loop-low
decreases-loop-low l = l.high - l.low
