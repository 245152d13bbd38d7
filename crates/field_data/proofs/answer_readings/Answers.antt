use native.Mathlib.Omega.{arith}
use Rattle.field_data.proofs.WordLaws.{answers_none, answers_more, answers_all}
use Rattle.field_data.specs.Words.{compared_in}
use Rattle.field_data.proofs.answer_readings.Goals as goal

pub loop-i-init : goal.loop-i-init
loop-i-init c = answers_none (compared_in c.args.res.now) c.args.readings.now c.args.answers.now

pub loop-i-preserved : goal.loop-i-preserved
loop-i-preserved c =
    answers_more (compared_in c.args.res.now) c.args.readings.now c.args.answers.now c.loop-i.i _ _ c.loop-i.invariant c.answer_reading.ensures

pub returns : goal.returns
returns c =
    let l = c.loop-i in
    answers_all (compared_in c.args.res.now) c.args.readings.now c.args.answers.now l.i l.answers l.invariant (omega arith) c.requires.readings_in_bounds
