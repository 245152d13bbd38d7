use Rattle.job.proofs.framing.other_version.Goals as goal

pub returns : goal.returns
returns c = rw c.field.ensures
