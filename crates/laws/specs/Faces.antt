-- What a face holds.
use Rattle.numbers.specs.Interval.{Within}
use Rattle.quantities.specs.Quantities.{most_head_pressure}
use Rattle.quantities.specs.declared.Face.TheVariants.{Closed, Drained}
use Rattle.quantities.specs.declared.Face.{Face}
use Rattle.std.specs.Prelude.{ℤ}

-- a face holds a pressure of the set, or none
unfoldable pub Holds : (ℤ → Type 0) → Face → Type 0
Holds P Closed = Unit {0}
Holds P (Drained held) = P held.0

-- no pressure that a drained face holds is greater than that of the greatest head
abbrev pub HeldWithin : Face → Type 0
HeldWithin = Holds (λ p. Within p most_head_pressure)
