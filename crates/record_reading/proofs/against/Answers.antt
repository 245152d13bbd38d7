use mathlib.Core.Path.{subst}
use Rattle.numbers.specs.Interval.{Within}
use Rattle.quantities.specs.Quantities.{stress_limits}
use Rattle.readings.specs.Conversion.{pressure_with}
use Rattle.readings.specs.declared.Converted.{Converted}
use Rattle.record_reading.proofs.against.Goals as goal

pub difference-requires : goal.difference-requires
difference-requires c = record {
  within = subst (λ (x : Converted). Within (pressure_with x) stress_limits.most) c.in-Value.is c.requires.within_2;
  within_2 = c.requires.within;
}

pub returns-in-Value : goal.returns-in-Value
returns-in-Value c = rw (c.in-Value.is, c.difference.ensures)

pub returns-in-Missing : goal.returns-in-Missing
returns-in-Missing c = rw c.in-Missing.is
