use mathlib.Core.Path.{◌≡◌, ◌∙◌}
use Rattle.numbers.specs.Bytes.{bytes}
use Rattle.encoding.proofs.Stores.{eight_bytes, sets_part, length-bytes}
use Rattle.encoding.proofs.put_word.Goals as goal

pub returns : goal.returns
returns c =
    let a = c.args in
    let part : c.copy_from_slice.new.self ≡ bytes 8 a.n = c.copy_from_slice.ensures.after ∙ c.to_le_bytes.ensures ∙ eight_bytes a.n in
    rw part (sets_part a.out.now a.at 8 (bytes 8 a.n) (length-bytes 8 a.n) c.requires)
