use native.Mathlib.Omega.{arith}
use Rattle.numbers.proofs.Signed.{read_back}
use Rattle.text.proofs.Laws.{put_put}
use Rattle.transcript.specs.Lines.{amounts_text}
use Rattle.transcript.proofs.lines.put_amounts.Goals as goal

pub returns-clause-put : goal.returns-clause-put
unfolding amounts_text
returns-clause-put c =
    let of = c.args.of in
    let loads = read_back {z = of.load.0} (record { sfits = omega arith }) in
    let tops = read_back {z = of.top_outflow.0} (record { sfits = omega arith }) in
    let bottoms = read_back {z = of.bottom_outflow.0} (record { sfits = omega arith }) in
    let two = put_put (simp loads at c.put_signed_number-a.ensures.put) c.put_number-b.ensures.put in
    let three = put_put two (simp tops at c.put_signed_number-c.ensures.put) in
    let four = put_put three (simp bottoms at c.put_signed_number-d.ensures.put) in
    put_put four c.put_number.ensures.put
