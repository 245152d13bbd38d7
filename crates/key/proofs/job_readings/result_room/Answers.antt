use Prim.Native.Nat.{◌/◌}
use borrow.Author.Tests.{lt-ltb, le-ltb}
use Rattle.rules.specs.Result.{result_size}
use Rattle.key.proofs.job_readings.result_room.Goals as goal

pub returns-then-answers-readings : goal.returns-then-answers-readings
returns-then-answers-readings c = simp (lt-ltb (c.args.answers / 5) (c.args.readings / 3) c.if-answers-readings.true)

pub returns : goal.returns
unfolding result_size
returns c = simp (le-ltb (c.args.answers / 5) (c.args.readings / 3) c.if-answers-readings.false)
