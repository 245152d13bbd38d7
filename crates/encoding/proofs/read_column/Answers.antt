use native.Mathlib.Omega.{arith}
use mathlib.Core.Path.{sym}
use Rattle.numbers.proofs.Filled.{filled_zero, filled_store}
use Rattle.numbers.specs.Bytes.{column}
use Rattle.encoding.proofs.read_column.Goals as goal

pub loop-i-init : goal.loop-i-init
loop-i-init c = sym (filled_zero _ _)

pub loop-i-preserved : goal.loop-i-preserved
unfolding column
loop-i-preserved c = filled_store _ _ _ _ _ (omega (arith, c.requires.0)) c.loop-i.invariant c.field.ensures
