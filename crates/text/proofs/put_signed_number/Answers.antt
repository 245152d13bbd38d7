use native.Mathlib.Omega.{arith}
use Rattle.numbers.proofs.Signed.{read_back}
use Rattle.text.specs.Text.{signed_spaced}
use Rattle.text.proofs.Laws.{length_signed, put_put, length_put}
use Rattle.text.proofs.put_signed_number.Goals as goal

pub put_signed-requires : goal.put_signed-requires
put_signed-requires c =
    let space = c.put_byte-next.ensures in
    simp (read_back c.ranges.z) (omega (arith, c.requires, space.passed, length_put space, length_signed c.args.z))

pub returns : goal.returns
unfolding signed_spaced
returns c = let space = c.put_byte-next.ensures in
    let number = simp (read_back c.ranges.z) at c.put_signed.ensures in record {
      put = put_put space number;
      upper_bound = omega (arith, space.passed, number.passed, length_signed c.args.z);
    }
