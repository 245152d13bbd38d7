use Rattle.rules.specs.Start.{at_most}
use Rattle.start.proofs.rests.Goals as goal

pub returns-in-Some : goal.returns-in-Some
unfolding at_most
returns-in-Some c = rw (← c.effective_stress-found.ensures.value_value.0, c.in-Some.is)

pub returns-in-None : goal.returns-in-None
unfolding at_most
returns-in-None c = rw (← c.effective_stress-found.ensures.value_value.0, c.in-None.is)
