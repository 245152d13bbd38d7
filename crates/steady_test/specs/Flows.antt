-- The elements of a layer that is lent, and its flows over the seconds of a steady start.
use Rattle.std.specs.Prelude.{ℕ, ℤ, neg_ℤ, List}
use Rattle.element.specs.Elements.{element_of, flow_above}
use Rattle.layer.specs.Held.{Held, excess_at, resistance_at}
use Rattle.numbers.specs.Arrays.{tabulate}
use Rattle.quantities.specs.declared.Face.{Face}
use Rattle.rules.specs.Curve.{Point}
use Rattle.rules.specs.Layer.{Skeleton, excess_pressure, resistance}
use Rattle.rules.specs.Steady.{steady_seconds}
use Rattle.rules.specs.Step.{outward}
use Rattle.steady_test.specs.declared.standing.Standing.{Standing}

-- p and r of an element
abbrev pub standing_of : Skeleton → (conductivity : List Point) (load : ℤ) (B S W : ℕ) → Standing
standing_of soil conductivity load B S W =
    record { excess = excess_pressure soil load B S W; resistance = resistance conductivity S W }

-- up through the bottom
unfoldable pub lowest_flow : (bottom : Face) → Held → ℤ
unfolding outward
lowest_flow bottom h = neg_ℤ (outward bottom steady_seconds (element_of (excess_at h 0) (resistance_at h 0) 0))

-- up through the upper face of element j
unfoldable pub flow_over : (top : Face) → Held → ℕ → ℤ
unfolding flow_above tabulate
flow_over top h j =
    flow_above top steady_seconds h.elements (tabulate h.elements (excess_at h)) (tabulate h.elements (resistance_at h)) j
