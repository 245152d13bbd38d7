use native.Mathlib.Omega.{arith}
use mathlib.Core.Path.{refl}
use Rattle.key.proofs.KeyLaws.{key_most}
use Rattle.key.proofs.ReadingLaws.{readings_numbers}
use Rattle.piezometer.proofs.Answering.{answers_written, refusal_written}
use Rattle.piezometer.proofs.answer_words.Goals as goal

pub refused_line-requires : goal.refused_line-requires
refused_line-requires c =
    let few = key_most _ (readings_numbers c.args.job.now c.args.readings.now c.args.answers.now) in
    (rw c.consolidation_readings-number.ensures.value (omega (arith, few)), omega arith)

pub returns-then-number-ne0-clause-out_after : goal.returns-then-number-ne0-clause-out_after
returns-then-number-ne0-clause-out_after c =
    let told = c.consolidation_readings-number.ensures in
    refusal_written c.args.job.now c.args.readings.now c.args.answers.now _ _ told.value told.answers_after c.args.out.now _ _ c.if-number-ne0.true
    c.refused_line.ensures

pub returns-clause-out_after : goal.returns-clause-out_after
returns-clause-out_after c =
    let told = c.consolidation_readings-number.ensures in
    answers_written c.args.job.now c.args.readings.now c.args.answers.now _ _ told.value told.answers_after c.args.out.now _ _ c.if-number-ne0.false
    c.put_words.ensures refl
