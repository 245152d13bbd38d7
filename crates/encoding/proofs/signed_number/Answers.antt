use mathlib.Core.Path.{◌∙◌}
use Rattle.numbers.proofs.Signed.{read_back}
use Rattle.encoding.proofs.Signed.{signed_number_bits}
use Rattle.encoding.proofs.signed_number.Goals as goal

pub returns : goal.returns
returns c = read_back (record { sfits = c.cast_signed.type_inv }) ∙ c.cast_signed.ensures ∙ signed_number_bits c.args.field
