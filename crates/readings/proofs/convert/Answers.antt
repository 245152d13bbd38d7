use borrow.Author.Rules.{rules}
use Rattle.readings.proofs.convert.Goals as goal

pub returns-in-Pressure : goal.returns-in-Pressure
returns-in-Pressure c = rw c.in-Pressure.is c.of_pressure.ensures

pub returns-in-Column : goal.returns-in-Column
returns-in-Column c = rw c.in-Column.is c.of_column.ensures

pub returns-in-Missing : goal.returns-in-Missing
returns-in-Missing c = rw c.in-Missing.is
