use mathlib.Core.Path.{◌≡◌}
use Rattle.numbers.specs.Arrays.{filled}
use Rattle.numbers.specs.Bytes.{column}
use Rattle.words.proofs.bytes.read_words.Given as goal

abbrev pub invariant-loop-i : goal.invariant-loop-i
invariant-loop-i l = l.words ≡ filled l.initial.words l.i (column 8 0 l.bytes)
