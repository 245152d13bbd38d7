use borrow.Author.Tests.{le-leb, lt-leb}
use Rattle.quantities.specs.Quantities.{within}
use Rattle.quantities.proofs.quantity.Limits.contains.Goals as goal

pub returns-then-self-n : goal.returns-then-self-n
unfolding within
returns-then-self-n c = rw (le-leb _ _ c.if-self-n.true)

pub returns-else-self-n : goal.returns-else-self-n
unfolding within
returns-else-self-n c = rw (lt-leb _ _ c.if-self-n.false)
