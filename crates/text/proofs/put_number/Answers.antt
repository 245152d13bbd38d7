use native.Mathlib.Omega.{arith}
use Rattle.text.specs.Text.{spaced}
use Rattle.text.proofs.Laws.{length-decimal, put_put, length_put}
use Rattle.text.proofs.put_number.Goals as goal

pub put_decimal-requires : goal.put_decimal-requires
put_decimal-requires c =
    let space = c.put_byte-next.ensures in
    omega (arith, c.requires, space.passed, length_put space, length-decimal c.args.n)

pub returns : goal.returns
unfolding spaced
returns c = let space = c.put_byte-next.ensures in
    let number = c.put_decimal.ensures in record {
      put = put_put space number;
      upper_bound = omega (arith, space.passed, number.passed, length-decimal c.args.n);
    }
