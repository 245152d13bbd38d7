use Prim.Native.Nat.{◌-◌, ◌≤◌}
use lib.ListN.{get_or, drop}
use mathlib.Core.Path.{◌≡◌}
use Rattle.rules.specs.Curve.{points}
use Rattle.rules.specs.Load.{load_at}
use Rattle.table.proofs.load_at.Given as goal

abbrev pub invariant-loop-i : goal.invariant-loop-i
invariant-loop-i l =
    let table = points l.table_points l.time l.load in
    (get_or l.time (l.i - 1) 0 ≤ l.clock) × (load_at (drop (l.i - 1) table) l.clock ≡ load_at table l.clock)
