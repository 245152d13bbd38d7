use Prim.Native.Nat.{◌+◌, ◌*◌, ◌≤◌}
use lib.ListN.{take}
use Rattle.text.specs.Text.{row, Put}
use Rattle.text.proofs.put_row.Given as goal

abbrev pub invariant-loop-i : goal.invariant-loop-i
invariant-loop-i l = (l.next ≤ l.at + 21 * l.i) × Put (row (take l.i l.values)) l.initial.out l.at l.out l.next
