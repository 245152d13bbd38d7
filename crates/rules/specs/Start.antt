-- Start: where the water heights of an opened layer come from.
use Rattle.std.specs.Prelude.{ℕ, suc, ◌+◌, leb, eqb, ℤ, pos, Bool, true, false, cond, List, map}
use Rattle.std.specs.Prelude.{Option, None, Some}
use Rattle.numbers.specs.Integers.{eq_ℤ}
use Rattle.numbers.specs.Lists.{least, last_or, paired, all_some}
use Rattle.quantities.specs.Quantities.{water_limits}
use Rattle.rules.specs.Curve.{Point, point}
use Rattle.rules.specs.Layer.{Site, State, Skeleton, effective_stress}
use Rattle.rules.specs.Step.{all_on_curve}
use Rattle.rules.specs.Load.{first_point}
use Rattle.quantities.specs.Quantities.{CurveValue}
use Rattle.quantities.specs.declared.Face.{Face}
use Rattle.quantities.specs.declared.Face.TheVariants.{Closed, Drained}

-- the load at opening: the table's first
unfoldable pub opening_load : Site → ℕ
unfolding first_point
opening_load site = (first_point site.load_table).ordinate

-- on the curve, with a stress of at most so much
unfoldable pub at_most : CurveValue → (stress : ℕ) → Bool
at_most (Some value) stress = leb value stress
at_most None stress = false

-- the least water height on the curve whose effective stress is at most so much
unfoldable pub resting_water : Skeleton → (S stress : ℕ) → Option ℕ
unfolding least at_most effective_stress
resting_water soil S stress = least (suc water_limits.most) 0 (λ W. at_most (effective_stress soil S W) stress)

-- the compressibility curve's last stress
unfoldable pub last_stress : List Point → ℕ
unfolding last_or
last_stress curve = (last_or (point 0 0) curve).ordinate

-- the resting water of an element under load + B, where that is not above the last stress
-- (`resting_water` stays shut here: a search over a billion heights is cited and never computed)
unfoldable pub resting_under : Skeleton → (load B S : ℕ) → Option ℕ
unfolding last_stress
resting_under soil load B S =
    elim (leb (load + B) (last_stress soil.compressibility)) [ true ↦ resting_water soil S (load + B) | false ↦ None ]

-- that of every element
unfoldable pub resting_from : Skeleton → (load : ℕ) (Bs Ss : List ℕ) → Option (List ℕ)
unfolding all_some paired resting_under
resting_from soil load Bs Ss = all_some (paired (resting_under soil load) Bs Ss)

-- start 1 is only for a closed bottom, or one at the top's level
unfoldable pub rests_over : (bottom : Face) (top_level bottom_level : ℤ) → Bool
rests_over Closed top_level bottom_level = true
rests_over (Drained held) top_level bottom_level = eq_ℤ bottom_level top_level

-- the water of start 1, at rest under a load, and of the starts 0 and 2, as given; none where cause 9 holds
unfoldable pub start_water : Skeleton → (Bs Ss : List ℕ) (may_rest : Bool) (start : ℕ) (given : List ℕ) (load : ℕ) → Option (List ℕ)
unfolding all_on_curve resting_from
start_water soil Bs Ss may_rest start given load =
    cond (eqb start 1) (cond may_rest (resting_from soil load Bs Ss) None) (cond (all_on_curve soil Ss (map pos given)) (Some given) None)

-- the state of a layer just opened with some water
unfoldable pub opening_state : Site → (water : List ℕ) → State
unfolding opening_load
opening_state site water = record {
  water = water;
  load = pos (opening_load site);
  clock = 0;
  top_outflow = pos 0;
  bottom_outflow = pos 0;
}
