use native.Mathlib.Omega.{arith}
use mathlib.Core.Path.{refl}
use Rattle.job.proofs.Counts.{Counted, counted}
use Rattle.rules.specs.Job.{job_length}
use Rattle.job.proofs.header.job_length.Goals as goal
use Rattle.job.proofs.header.job_length.Lts as lts
use Rattle.job.proofs.header.job_length.Reads as reads

counts : (c : lts.Start reads.Pre reads.Post) → Counted c.args.header.elements c.args.header.compressibility_points c.args.header.conductivity_points c.args.header.table_points (job_length c.args.header)
counts c = counted c.args.header _ c.requires refl

pub overflow_add-result : goal.overflow_add-result
overflow_add-result c = omega (arith, counts c.before)

pub overflow_add-result-2 : goal.overflow_add-result-2
overflow_add-result-2 c = omega (arith, counts c.before.before)

pub overflow_add-result-3 : goal.overflow_add-result-3
overflow_add-result-3 c = omega (arith, counts c.before.before.before)

pub overflow_mul-result : goal.overflow_mul-result
overflow_mul-result c = omega (arith, counts c.before.before.before)

pub overflow_add-result-4 : goal.overflow_add-result-4
overflow_add-result-4 c = omega (arith, counts c.before.before.before)

pub returns : goal.returns
unfolding job_length
returns c = refl
