use Rattle.rules.specs.Curve.{value_of}
use Rattle.curves.proofs.reading.value_of.Goals as goal

pub returns : goal.returns
unfolding value_of
returns c = c.unwrap_or.ensures
