use Rattle.answers.proofs.Causes.{cause_numbered}
use borrow.Author.Rules.{rules}
use Rattle.result.proofs.refused.Goals as goal

pub overflow_cast-result : goal.overflow_cast-result
overflow_cast-result c = let (_, few) = cause_numbered c.args.cause in search rules
