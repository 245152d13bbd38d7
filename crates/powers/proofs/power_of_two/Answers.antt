use borrow.Author.Rules.{rules}
use Rattle.powers.proofs.Table.{power_at}
use Rattle.powers.proofs.power_of_two.Goals as goal

pub returns : goal.returns
returns c = power_at 55 c.args.k (search rules)
