-- The flows of a layer that is lent, by its elements: each is worked out from the element below its face and the one above.
use Prim.Native.Nat.{ℕ, ◌+◌, ◌<◌}
use lib.IntN.{pos, ◌-ℤ◌, ◌*ℤ◌}
use lib.ListN.{get_or}
use mathlib.Core.Path.{◌≡◌}
use native.Mathlib.Omega.{arith}
use Rattle.element.proofs.FlowsAt.{flow_inner, flow_top}
use Rattle.element.specs.Elements.{element_of}
use Rattle.laws.proofs.Excess as Excess
use Rattle.laws.specs.Most.{most_excess}
use Rattle.layer.specs.Held.{Held, Stands, excess_at, resistance_at}
use Rattle.numbers.proofs.Filled.{get_or-tabulate}
use Rattle.numbers.proofs.Searches.{passed}
use Rattle.numbers.specs.Arrays.{tabulate}
use Rattle.numbers.specs.Interval.{Within}
use Rattle.numbers.specs.Rounding.{cut}
use Rattle.quantities.specs.declared.Face.{Face}
use Rattle.rules.specs.Record.{compressibility_points, conductivity_points}
use Rattle.rules.specs.Steady.{steady_seconds}
use Rattle.rules.specs.Step.{outward}
use Rattle.steady_test.specs.Flows.{flow_over}
use Rattle.steady_test.specs.declared.standing.Standing.{Standing}

-- what an element reads keeps its range
module _ (h : Held) (stands : Stands h) (j : ℕ) (k : j < h.elements) where
  pub excess_in : Within (excess_at h j) most_excess
  excess_in =
      let on = stands.on_soil j k in
      Excess.excess_within (compressibility_points h.soil) (passed stands.soil.compressibility_is_sound) _ _ (get_or h.solids j 0) (get_or h.water j 0)
      on.load_between on.burden_most

  pub resistance_in : Excess.Resists (resistance_at h j)
  resistance_in =
      let on = stands.on_soil j k in
      Excess.resistance_ranged (compressibility_points h.soil) (conductivity_points h.soil) (passed stands.soil.compressibility_is_sound)
      (passed stands.soil.conductivity_is_sound) (get_or h.solids j 0) (get_or h.water j 0) on.solids_positive on.solids_most (passed on.is_on_curve)

module _ (top : Face) (h : Held) (j : ℕ) where
  -- through an inner face
  pub flow_between : j + 1 < h.elements → flow_over top h j ≡
      cut ((excess_at h j -ℤ excess_at h (j + 1)) *ℤ pos steady_seconds) (resistance_at h j + resistance_at h (j + 1))
  unfolding flow_over
  flow_between k =
      rw (
        flow_inner top steady_seconds h.elements (tabulate h.elements (excess_at h)) (tabulate h.elements (resistance_at h)) j k,
        get_or-tabulate h.elements (excess_at h) j (pos 0) (omega arith),
        get_or-tabulate h.elements (excess_at h) (j + 1) (pos 0) k,
        get_or-tabulate h.elements (resistance_at h) j 0 (omega arith),
        get_or-tabulate h.elements (resistance_at h) (j + 1) 0 k,
      )

  -- through the top
  pub flow_out : j + 1 ≡ h.elements → flow_over top h j ≡ outward top steady_seconds (element_of (excess_at h j) (resistance_at h j) 0)
  unfolding flow_over
  flow_out k =
      rw (
        flow_top top steady_seconds h.elements (tabulate h.elements (excess_at h)) (tabulate h.elements (resistance_at h)) j k,
        get_or-tabulate h.elements (excess_at h) j (pos 0) (omega arith),
        get_or-tabulate h.elements (resistance_at h) j 0 (omega arith),
      )

-- p and r of element j, as it stands
abbrev pub standing_at : Held → ℕ → Standing
standing_at h j = record { excess = excess_at h j; resistance = resistance_at h j }
