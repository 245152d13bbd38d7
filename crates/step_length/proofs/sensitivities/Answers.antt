use native.Mathlib.Omega.{arith}
use Rattle.numbers.proofs.Filled.{filled_store}
use Rattle.step_length.proofs.sensitivities.Goals as goal

pub loop-j-preserved : goal.loop-j-preserved
loop-j-preserved c = filled_store _ _ _ _ _ (omega (arith, c.requires.sensitivity_len)) c.loop-j.invariant c.sensitivity.ensures
