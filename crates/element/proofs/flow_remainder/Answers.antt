use Rattle.element.proofs.Machine.{flow_ready, flow_read}
use Rattle.numbers.specs.Quotients.{Left}
use Rattle.element.proofs.flow_remainder.Goals as goal

pub remainder-requires : goal.remainder-requires
remainder-requires c = flow_ready _ c.requires.within c.requires.t_le_most _ c.requires.resistance_nonzero

pub returns : goal.returns
returns c =
    flow_read _ c.requires.within c.requires.t_le_most Left _ c.requires.resistance_nonzero (record { sfits = c.remainder.type_inv }) c.remainder.ensures
