use Prim.Native.Nat.{◌%◌, ◌^◌}
use borrow.Author.Tests.{lt-ltb, le-ltb}
use Rattle.floats.specs.Binary32.{infinity, plain_bits}
use Rattle.floats.proofs.plain_bits.Goals as goal

pub returns-then-bits-gt2139095040 : goal.returns-then-bits-gt2139095040
unfolding plain_bits
returns-then-bits-gt2139095040 c = simp (lt-ltb infinity (c.args.bits % 2 ^ 31) c.if-bits-gt2139095040.true)

pub returns : goal.returns
unfolding plain_bits
returns c = simp (le-ltb infinity (c.args.bits % 2 ^ 31) c.if-bits-gt2139095040.false)
