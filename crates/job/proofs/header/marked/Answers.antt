use mathlib.Core.Path.{refl}
use Rattle.rules.specs.Job.{marked}
use Rattle.job.proofs.header.marked.Goals as goal

pub returns : goal.returns
unfolding marked
returns c = refl
