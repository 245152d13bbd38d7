use Rattle.answers.proofs.RefusedLine.{line_of_10, line_of_11}
use Rattle.answers.proofs.refused_line.Goals as goal

pub returns-then-number-lt10 : goal.returns-then-number-lt10
returns-then-number-lt10 c =
    rw c.copy_from_slice.ensures.after (line_of_10 c.args.number c.args.out.now c.requires.1 c.if-number-lt10.true)

pub returns : goal.returns
returns c = rw c.copy_from_slice.ensures.after (line_of_11 c.args.number c.args.out.now c.requires.1 c.if-number-lt10.false)
