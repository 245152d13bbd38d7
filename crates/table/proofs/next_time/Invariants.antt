use Prim.Native.Nat.{ℕ}
use lib.ListN.{drop}
use mathlib.Core.List.{List}
use mathlib.Core.Path.{◌≡◌}
use Rattle.rules.specs.Curve.{points}
use Rattle.rules.specs.Load.{next_time}
use Rattle.table.proofs.next_time.Given as goal

abbrev pub invariant-loop-i : goal.invariant-loop-i
invariant-loop-i l =
    (load : List ℕ) → let table = points l.table_points l.time load in
    next_time (drop l.i table) l.clock l.otherwise ≡ next_time table l.clock l.otherwise
