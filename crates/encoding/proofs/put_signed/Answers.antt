use Prim.Native.Nat.{ℕ}
use lib.Seq.{sets}
use mathlib.Core.Path.{ap, ◌∙◌}
use Rattle.numbers.specs.Bytes.{bytes}
use Rattle.numbers.proofs.Signed.{read_back}
use Rattle.encoding.proofs.put_signed.Goals as goal

pub returns : goal.returns
returns c =
    c.put_word.ensures ∙
    ap (λ (n : ℕ). sets c.args.out.now c.args.at (bytes 8 n)) (simp (read_back c.ranges.z) at c.signed_field.ensures)
