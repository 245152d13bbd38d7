use Rattle.curves.proofs.SmoothCurves.{compressibility_smooth}
use Rattle.element.proofs.effective_stress.Goals as goal

pub read-requires-clause-smooth : goal.read-requires-clause-smooth
read-requires-clause-smooth c = compressibility_smooth _ _ _ c.requires.stress_value

pub returns-clause-read_on : goal.returns-clause-read_on
returns-clause-read_on c = rw c.void_ratio-ratio.ensures at c.read.ensures.read_on
