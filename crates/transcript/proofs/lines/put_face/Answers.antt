use native.Mathlib.Omega.{arith}
use Rattle.numbers.proofs.Signed.{read_back}
use Rattle.text.proofs.Laws.{put_put}
use Rattle.transcript.specs.Lines.{face_text}
use Rattle.transcript.proofs.lines.put_face.Goals as goal

pub returns-in-Closed-clause-put : goal.returns-in-Closed-clause-put
unfolding face_text
returns-in-Closed-clause-put c = rw c.in-Closed.is (put_put c.put_number-next.ensures.put c.put_number.ensures.put)

pub returns-in-Drained-clause-put : goal.returns-in-Drained-clause-put
unfolding face_text
returns-in-Drained-clause-put c =
    let back = read_back {z = c.in-Drained.held.0} (record { sfits = omega arith }) in
    rw c.in-Drained.is (put_put c.put_number-next-in-Drained.ensures.put (simp back at c.put_signed_number.ensures.put))
