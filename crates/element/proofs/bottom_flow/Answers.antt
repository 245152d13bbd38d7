use Rattle.element.proofs.Machine.{out_read}
use Rattle.element.proofs.bottom_flow.Goals as goal

pub returns : goal.returns
returns c =
    rw c.outward.ensures.value (out_read _ _ _ c.args.resistance c.requires.held_within c.requires.within c.requires.t_le_most).1
