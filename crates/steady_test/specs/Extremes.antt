-- The least and the greatest of a layer's flows, as they are found one after the other.
use Rattle.std.specs.Prelude.{ℕ, zero, suc, ℤ, cond}
use Rattle.std.specs.Int.Signed.{lt_z}
use Rattle.steady_test.specs.declared.extremes.Extremes.{Extremes}

abbrev pub lesser : (a b : ℤ) → ℤ
lesser a b = cond (lt_z a b) a b

abbrev pub greater : (a b : ℤ) → ℤ
greater a b = cond (lt_z a b) b a

-- both of one flow
abbrev pub of_one : (flow : ℤ) → Extremes
of_one flow = record { least = flow; greatest = flow }

-- both with one flow more
abbrev pub with_flow : Extremes → (flow : ℤ) → Extremes
with_flow extremes flow = record { least = lesser extremes.least flow; greatest = greater extremes.greatest flow }

-- those of the lowest flow and of so many above it
unfoldable pub extremes_to : (lowest : ℤ) → ℕ → (above : ℕ → ℤ) → Extremes
extremes_to lowest zero above = of_one lowest
extremes_to lowest (suc n) above = with_flow (extremes_to lowest n above) (above n)
