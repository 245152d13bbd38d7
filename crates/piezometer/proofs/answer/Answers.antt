use native.Mathlib.Omega.{arith}
use Rattle.piezometer.proofs.Answering.{field_written, front_read, front_zeros}
use Rattle.piezometer.proofs.answer.Goals as goal

pub returns : goal.returns
returns c =
    let readings = c.args.readings.now in
    field_written c.args.job.now readings _ _ c.args.out.now _ _
    (front_read _ readings _ c.read_words.new.words _ (omega arith) c.read_words.ensures)
    (front_zeros _ 5120 (omega arith)) c.answer_words.ensures.out_after
