use native.Mathlib.Omega.{arith}
use Rattle.numbers.proofs.Quotients.{ceiled_up}
use Rattle.numbers.proofs.ceil.Goals as goal

pub returns : goal.returns
returns c = ceiled_up c.requires.0 (omega arith)
