use mathlib.Core.Path.{refl}
use Rattle.rules.specs.Result.{result_size}
use Rattle.result.proofs.result_size.Goals as goal

pub returns : goal.returns
unfolding result_size
returns c = refl
