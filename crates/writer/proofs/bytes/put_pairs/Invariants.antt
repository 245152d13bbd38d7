use lib.Seq.{sets}
use mathlib.Core.Path.{◌≡◌}
use Rattle.writer.specs.Writing.{pairs_bytes}
use Rattle.writer.proofs.bytes.put_pairs.Given as goal

abbrev pub invariant-loop-i : goal.invariant-loop-i
invariant-loop-i l = l.out ≡ sets l.initial.out l.at (pairs_bytes l.i l.firsts l.seconds)
