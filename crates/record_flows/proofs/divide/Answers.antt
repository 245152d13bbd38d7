use Rattle.record_flows.proofs.LayerFaces.{entry_most}
use Rattle.record_flows.proofs.divide.Goals as goal

pub divide_into-requires : goal.divide_into-requires
divide_into-requires c =
    let (room, long) = c.requires in
    (λ is. rw room (entry_most c.args.r is), λ is. rw long (entry_most c.args.r is))
