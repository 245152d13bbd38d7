use native.Mathlib.Omega.{arith}
use Rattle.acceptance.proofs.Starting.{cleared}
use Rattle.acceptance.proofs.starts.clear.Goals as goal

pub returns : goal.returns
returns c = cleared c.args.numbers.now _ c.args.elements (omega (arith, c.requires.1)) (c.fill.ensures.after (λ y e. e))
