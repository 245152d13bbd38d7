use borrow.Author.Rules.{rules}
use Rattle.rules.specs.Layer.{bottom_pressure}
use Rattle.record_parts.proofs.faces.bottom_pressure.Goals as goal

pub returns : goal.returns
unfolding bottom_pressure
returns c = search rules
