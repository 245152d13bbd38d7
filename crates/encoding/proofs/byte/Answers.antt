use mathlib.Core.Path.{sym}
use Rattle.numbers.proofs.LittleEndian.{field_one}
use Rattle.encoding.proofs.byte.Goals as goal

pub returns : goal.returns
returns c = sym (field_one _ _)
