-- One step of t seconds. All is read before anything moves.
use Rattle.std.specs.Prelude.{ℕ, ◌+◌, ◌*◌, ltb, ℤ, pos, negsuc, neg_ℤ, ◌+ℤ◌, ◌-ℤ◌, ◌*ℤ◌, drop, Bool, false, not, ◌||◌, List, [], ◌∷◌, ◌++◌}
use Rattle.std.specs.Prelude.{Option}
use Rattle.numbers.specs.Rounding.{cut}
use Rattle.numbers.specs.Lists.{all, any, paired, tripled, first_or, last_or}
use Rattle.quantities.specs.Quantities.{within, step_limits, clock_limits}
use Rattle.rules.specs.Curve.{curve_steepness, is_on}
use Rattle.rules.specs.Layer.{Site, State, Skeleton, skeleton, Element, read_elements, effective_stress}
use Rattle.rules.specs.Refusals.{◌if◌, first_cause}
use Rattle.quantities.specs.declared.Face.{Face}
use Rattle.quantities.specs.declared.Face.TheVariants.{Closed, Drained}
use Rattle.rules.specs.declared.answers.Refusal.{Refusal}
use Rattle.rules.specs.declared.answers.Refusal.TheVariants.{StepOutside, StepTooLong, StepOffCurve}

-- R of an inner face, and of a drained outer one
unfoldable pub inner_resistance : (below above : Element) → ℕ
inner_resistance below above = below.resistance + above.resistance

unfoldable pub outer_resistance : Element → ℕ
outer_resistance e = e.resistance

-- up through an inner face
unfoldable pub upward : (t : ℕ) (below above : Element) → ℤ
unfolding inner_resistance
upward t below above = cut ((below.excess -ℤ above.excess) *ℤ pos t) (inner_resistance below above)

-- out through an outer face
unfoldable pub outward : Face → (t : ℕ) → Element → ℤ
unfolding outer_resistance
outward Closed t e = pos 0
outward (Drained held) t e = cut ((e.excess -ℤ held.0) *ℤ pos t) (outer_resistance e)

-- up through the upper face of each element
unfoldable pub flows_above : (top : Face) (t : ℕ) → List Element → List ℤ
unfolding upward outward
flows_above top t [] = []
flows_above top t (e ∷ []) = outward top t e ∷ []
flows_above top t (e ∷ f ∷ rest) = upward t e f ∷ flows_above top t (f ∷ rest)

-- up through every face of the layer, the bottom first: one flow more than elements
unfoldable pub upward_flows : (top bottom : Face) (t : ℕ) → List Element → List ℤ
unfolding outward flows_above
upward_flows top bottom t [] = []
upward_flows top bottom t (e ∷ rest) = neg_ℤ (outward bottom t e) ∷ flows_above top t (e ∷ rest)

-- the new water, on the curve or not: less what leaves by the upper face, and what enters by the lower
unfoldable pub moved : (flows : List ℤ) (water : List ℕ) → List ℤ
unfolding tripled
moved flows water = tripled (λ below above W. pos W -ℤ above +ℤ below) flows (drop 1 flows) water

-- the height of an element's water after a step. None goes below 0: such a step is refused, and the height stays
unfoldable pub new_height : (old : ℕ) (new : ℤ) → ℕ
new_height old (pos W) = W
new_height old (negsuc below) = old

-- the state after a step
unfoldable pub stepped : Site → (t : ℕ) → State → State
unfolding upward_flows read_elements moved new_height paired first_or last_or
stepped site t s =
    let flows = upward_flows site.top site.bottom t (read_elements site s) in
    record {
      water = paired new_height s.water (moved flows s.water);
      load = s.load;
      clock = s.clock + t;
      top_outflow = s.top_outflow +ℤ last_or (pos 0) flows;
      bottom_outflow = s.bottom_outflow -ℤ first_or (pos 0) flows;
    }

-- the most by which the effective stress falls for each unit of void ratio: G
unfoldable pub site_steepness : Site → ℕ
unfolding curve_steepness
site_steepness site = curve_steepness site.compressibility

-- an element with an inner or drained face of it: the element's c and the face's R
pub record Contact : Type 0 where
  pub sensitivity : ℕ
  pub face_resistance : ℕ

abbrev pub contact : Element → ℕ → Contact
contact e R = record { sensitivity = e.sensitivity; face_resistance = R }

unfoldable pub outer_contacts : Face → Element → List Contact
unfolding outer_resistance
outer_contacts Closed e = []
outer_contacts (Drained held) e = contact e (outer_resistance e) ∷ []

unfoldable pub contacts_above : (top : Face) → List Element → List Contact
unfolding outer_contacts inner_resistance
contacts_above top [] = []
contacts_above top (e ∷ []) = outer_contacts top e
contacts_above top (e ∷ f ∷ rest) =
    contact e (inner_resistance e f) ∷ contact f (inner_resistance e f) ∷ contacts_above top (f ∷ rest)

-- every element with every inner or drained face of it
unfoldable pub contacts : (top bottom : Face) → List Element → List Contact
unfolding outer_contacts contacts_above
contacts top bottom [] = []
contacts top bottom (e ∷ rest) = outer_contacts bottom e ++ contacts_above top (e ∷ rest)

-- a step is too long for an element and a face of it
unfoldable pub too_long_at : (steepness t : ℕ) → Contact → Bool
too_long_at steepness t c = ltb c.face_resistance (2 * c.sensitivity * steepness * t)

-- a step is too long for some element and face of it
unfoldable pub too_long : Site → State → (t : ℕ) → Bool
unfolding any too_long_at contacts read_elements site_steepness
too_long site s t = any (too_long_at (site_steepness site) t) (contacts site.top site.bottom (read_elements site s))

-- a water height is on the curve
unfoldable pub on_curve : Skeleton → (S : ℕ) (W : ℤ) → Bool
unfolding is_on effective_stress
on_curve soil S (pos W) = is_on (effective_stress soil S W)
on_curve soil S (negsuc W) = false

-- all water heights are
unfoldable pub all_on_curve : Skeleton → (solids : List ℕ) (water : List ℤ) → Bool
unfolding all paired on_curve
all_on_curve soil solids water = all (λ on. on) (paired (on_curve soil) solids water)

-- a step would take some element off the curve
unfoldable pub leaves_curve : Site → State → (t : ℕ) → Bool
unfolding all_on_curve moved upward_flows read_elements
leaves_curve site s t =
    not (all_on_curve (skeleton site) site.solids (moved (upward_flows site.top site.bottom t (read_elements site s)) s.water))

-- why a step is refused, if it is: 13, 14, 15
unfoldable pub step_refusal : Site → State → (t : ℕ) → Option Refusal
unfolding first_cause within too_long leaves_curve
step_refusal site s t =
    first_cause (
    (StepOutside if (not (within step_limits t) || not (within clock_limits (s.clock + t)))) ∷
    (StepTooLong if too_long site s t) ∷
    (StepOffCurve if leaves_curve site s t) ∷ []
    )
