use Rattle.element.proofs.Machine.{flow_ready, flow_read}
use Rattle.numbers.specs.Quotients.{Cut}
use Rattle.element.proofs.flow.Goals as goal

pub cut-requires : goal.cut-requires
cut-requires c = flow_ready _ c.requires.within c.requires.t_le_most _ c.requires.resistance_nonzero

pub returns : goal.returns
returns c =
    flow_read _ c.requires.within c.requires.t_le_most Cut _ c.requires.resistance_nonzero (record { sfits = c.cut.type_inv }) c.cut.ensures
