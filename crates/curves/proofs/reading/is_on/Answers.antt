use Rattle.rules.specs.Curve.{is_on}
use Rattle.curves.proofs.reading.is_on.Goals as goal

pub returns : goal.returns
unfolding is_on
returns c = c.is_some.ensures
