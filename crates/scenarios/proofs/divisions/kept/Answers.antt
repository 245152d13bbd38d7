use borrow.Author.Rules.{rules}
use Rattle.std.proofs.Common.{arith, get_or}
use lib.IntN.{pos}
use mir.Syntax.{w64}
use mir.Val.{SFits}
use Rattle.scenarios.proofs.Kept.{at_fill, at_other, at_end}
use Rattle.scenarios.proofs.divisions.kept.Goals as goal
use Rattle.scenarios.proofs.divisions.kept.Goals.{then-buffer-i, else-buffer-i}

pub loop-i-preserved : goal.loop-i-preserved
loop-i-preserved c =
    let buffer = c.args.buffer.now in
    let i = c.loop-i.i in
    let fits : SFits w64 (get_or buffer i (pos 0)) = search rules in
    elim c.if-buffer-i.branch [
      | then-buffer-i w ↦
          let more = at_fill buffer i (omega arith) fits w.if-buffer-i.true in
          record { counted = omega arith; few = omega arith; most = omega arith }
      | else-buffer-i w ↦
          let same = at_other buffer i (omega arith) fits w.if-buffer-i.false in
          record { counted = omega arith; few = omega arith; most = omega arith }
    ]

pub returns-clause-value : goal.returns-clause-value
returns-clause-value c =
    let end = at_end c.args.buffer.now c.loop-i.i (omega arith) in
    omega (arith, end)
