use native.Mathlib.Omega.{arith}
use borrow.Author.Rules.{rules}
use Rattle.answers.proofs.Causes.{cause_numbered}
use Rattle.long_division.proofs.refuse.Goals as goal

pub overflow_cast-refusal_number : goal.overflow_cast-refusal_number
overflow_cast-refusal_number c = let (_, few) = cause_numbered c.args.cause in search rules

pub refused_line-requires : goal.refused_line-requires
refused_line-requires c =
    let (_, few) = cause_numbered c.args.cause in
    (omega (arith, c.refusal_number.ensures, few), search rules)
