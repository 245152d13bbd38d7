use mathlib.Core.Path.{subst}
use Rattle.numbers.specs.Interval.{Within}
use Rattle.quantities.specs.Quantities.{stress_limits}
use Rattle.readings.specs.Conversion.{pressure_in}
use Rattle.readings.specs.declared.Converted.{Converted}
use Rattle.std.specs.Prelude.{Option}
use Rattle.record_reading.proofs.less.Goals as goal

pub against-requires : goal.against-requires
against-requires c = record {
  within = c.requires.within;
  within_2 = subst (λ (x : Option Converted). Within (pressure_in x) stress_limits.most) c.in-Some.is c.requires.within_2;
}

pub returns-in-Some : goal.returns-in-Some
returns-in-Some c = rw (c.in-Some.is, c.against.ensures)

pub returns-in-None : goal.returns-in-None
returns-in-None c = rw c.in-None.is
