use Rattle.record_reading.specs.Comparison.{compared_numbers}
use Rattle.record_reading.proofs.numbers_of.Goals as goal

pub returns-in-Ok : goal.returns-in-Ok
unfolding compared_numbers
returns-in-Ok c = rw (c.in-Ok.is, c.told_numbers.ensures)

pub returns-in-Err : goal.returns-in-Err
unfolding compared_numbers
returns-in-Err c = rw (c.in-Err.is, c.refusal_number.ensures)
