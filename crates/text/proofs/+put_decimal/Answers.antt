use native.Mathlib.Omega.{arith}
use lib.ListN.{length}
use mathlib.Core.Path.{ap}
use Rattle.text.proofs.Laws.{decimal_one, decimal_more, decimal_longer, put_put, length_put}
use Rattle.text.proofs.+put_decimal.Goals as goal

pub put_byte-requires : goal.put_byte-requires
put_byte-requires t c = omega (arith, c.requires, ap length (decimal_one c.args.n c.if-n-lt10.true))

pub put_decimal-next-requires : goal.put_decimal-next-requires
put_decimal-next-requires t c =
    (omega (arith, c.decreases), omega (arith, c.requires, decimal_longer c.args.n c.if-n-lt10.false c.ranges.n.fits))

pub put_byte-requires-else-n-lt10 : goal.put_byte-requires-else-n-lt10
put_byte-requires-else-n-lt10 t c =
    let put = c.put_decimal-next in
    omega (arith, c.requires, put.ensures.passed, length_put put.ensures, decimal_longer c.args.n c.if-n-lt10.false c.ranges.n.fits)

pub returns-then-n-lt10 : goal.returns-then-n-lt10
returns-then-n-lt10 t c =
    rw (decimal_one c.args.n c.if-n-lt10.true) (rw c.digit.ensures at c.put_byte.ensures)

pub returns-else-n-lt10 : goal.returns-else-n-lt10
returns-else-n-lt10 t c =
    rw (decimal_more c.args.n c.if-n-lt10.false c.ranges.n.fits)
    (put_put c.put_decimal-next.ensures (rw c.digit-else-n-lt10.ensures at c.put_byte-else-n-lt10.ensures))
