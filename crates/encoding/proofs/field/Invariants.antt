use Prim.Native.Nat.{◌+◌, ◌-◌}
use mathlib.Core.Path.{◌≡◌}
use Rattle.numbers.specs.Bytes.{field}
use Rattle.encoding.proofs.field.Given as goal

-- the bytes above i are read
abbrev pub invariant-loop-i : goal.invariant-loop-i
invariant-loop-i l = l.value ≡ field (l.size - l.i) (l.offset + l.i) l.bytes
