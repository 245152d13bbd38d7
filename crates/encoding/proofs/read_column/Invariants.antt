use mathlib.Core.Path.{◌≡◌}
use Rattle.numbers.specs.Arrays.{filled}
use Rattle.numbers.specs.Bytes.{column}
use Rattle.encoding.proofs.read_column.Given as goal

abbrev pub invariant-loop-i : goal.invariant-loop-i
invariant-loop-i l =
    l.numbers ≡ filled l.initial.numbers l.i (column l.stride l.offset l.bytes)
