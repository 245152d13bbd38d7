use native.Mathlib.Omega.{arith}
use Rattle.numbers.proofs.Signed.{read_back}
use Rattle.text.proofs.Laws.{put_put}
use Rattle.transcript.specs.Lines.{levels_text}
use Rattle.transcript.proofs.lines.put_levels.Goals as goal

pub returns-clause-put : goal.returns-clause-put
unfolding levels_text
returns-clause-put c =
    let top = read_back {z = c.args.top.0} (record { sfits = omega arith }) in
    let bottom = read_back {z = c.args.bottom.0} (record { sfits = omega arith }) in
    put_put (simp top at c.put_signed_number-next.ensures.put) (simp bottom at c.put_signed_number.ensures.put)
