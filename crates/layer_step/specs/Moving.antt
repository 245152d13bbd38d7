-- A step of a layer as arrays hold it: what it gives, and what it leaves.
use Rattle.std.specs.Prelude.{ℕ, zero, suc, ℤ, pos, get_or, Bool, true, false, List, []}
use Rattle.element.specs.Elements.{elements_in, flow_above}
use Rattle.numbers.specs.Arrays.{first_places, overlaid, filled, every_index}
use Rattle.numbers.specs.Lists.{paired, first_or, last_or}
use Rattle.rules.specs.Step.{upward_flows, moved, new_height}
use Rattle.rules.specs.declared.answers.Stop.{Stop}
use Rattle.rules.specs.declared.answers.Stop.TheVariants.{NoStep, OffCurve}
use Rattle.quantities.specs.declared.Face.{Face}
use Rattle.water.specs.Water.{between}
use Rattle.std.specs.Prelude.{Option, None, Some, Result, Ok, Err}
use Rattle.layer_step.specs.declared.Flows.{Flows}
use Rattle.layer_step.specs.declared.Taken.{Taken}

-- the upward flows of the arrays, the bottom first
abbrev pub flows_in : (top bottom : Face) (t elements : ℕ) (excess : List ℤ) (resistance : List ℕ) → List ℤ
flows_in top bottom t elements excess resistance = upward_flows top bottom t (elements_in elements excess resistance [])

-- the heights of the first places after the flows
abbrev pub new_heights : (elements : ℕ) (water : List ℕ) (flows : List ℤ) → List ℕ
new_heights elements water flows = paired new_height (first_places elements water) (moved flows (first_places elements water))

-- the flows leave the water of every element between its bounds
unfoldable pub stays_between : (elements : ℕ) (low high water : List ℕ) (flows : List ℤ) → Bool
unfolding every_index moved first_places
stays_between elements low high water flows =
    let new = moved flows (first_places elements water) in
    every_index elements (λ j. between (get_or low j 0) (get_or high j 0) (get_or new j (pos 0)))

-- what a step gives: the first and the last flow, unless an element leaves its bounds
unfoldable pub moved_by : (stays : Bool) (flows : List ℤ) → Option Flows
unfolding first_or last_or
moved_by stays flows = elim stays [ true ↦ Some (record { bottom = first_or (pos 0) flows; top = last_or (pos 0) flows }) | false ↦ None ]

abbrev pub moved_in : (elements : ℕ) (low high water : List ℕ) (flows : List ℤ) → Option Flows
moved_in elements low high water flows = moved_by (stays_between elements low high water flows) flows

-- the water after it, as it was where an element leaves its bounds; places past the count are kept
unfoldable pub water_by : (stays : Bool) (elements : ℕ) (water : List ℕ) (flows : List ℤ) → List ℕ
unfolding overlaid moved first_places paired new_height
water_by stays elements water flows = elim stays [ true ↦ overlaid (new_heights elements water flows) water | false ↦ water ]

abbrev pub water_in : (elements : ℕ) (low high water : List ℕ) (flows : List ℤ) → List ℕ
water_in elements low high water flows = water_by (stays_between elements low high water flows) elements water flows

-- what the longest step gives: why none is taken, or its seconds with the first and the last flow
unfoldable pub longest_by : (t : ℕ) → Option Flows → Result Taken Stop
longest_by zero moved = Err NoStep
longest_by (suc t) None = Err OffCurve
longest_by (suc t) (Some flows) = Ok (record { seconds = suc t; flows = flows })

-- where there is one: the water after it, and the flows above the elements
unfoldable pub water_longest : (t elements : ℕ) (low high water : List ℕ) (flows : List ℤ) → List ℕ
unfolding water_by
water_longest zero elements low high water flows = water
water_longest (suc t) elements low high water flows = water_in elements low high water flows

unfoldable pub flows_longest : (t elements : ℕ) (top : Face) (excess : List ℤ) (resistance : List ℕ) (above : List ℤ) → List ℤ
unfolding filled flow_above
flows_longest zero elements top excess resistance above = above
flows_longest (suc t) elements top excess resistance above = filled above elements (flow_above top (suc t) elements excess resistance)
