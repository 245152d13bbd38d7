use native.Mathlib.Omega.{arith}
use Rattle.numbers.proofs.Signed.{read_unsigned}
use Rattle.acceptance.proofs.record.opening_progress.Goals as goal

pub returns : goal.returns
returns c = rw (read_unsigned c.args.load (omega arith))
