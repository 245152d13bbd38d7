use Rattle.job.proofs.framing.wrong_length.Goals as goal

pub returns : goal.returns
returns c = rw c.job_length.ensures
