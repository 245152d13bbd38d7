-- What a step that stays on the curve leaves: water on the curve, and none of it negative.
use Prim.Native.Nat.{ℕ}
use lib.Dec.{T}
use lib.IntN.{ℤ, pos, negsuc}
use mathlib.Core.Bool.{Bool, true, false, not}
use mathlib.Core.Path.{◌≡◌, refl}
use Rattle.rules.specs.Curve.{is_on}
use Rattle.rules.specs.Layer.{Site, State, Skeleton, skeleton, read_elements, effective_stress}
use Rattle.rules.specs.Step.{upward_flows, moved, new_height, on_curve, all_on_curve, leaves_curve}

-- water on the curve is not negative, so it is the new height, and its effective stress is read
pub on_curve_parts : (soil : Skeleton) (S old : ℕ) (z : ℤ) → T (on_curve soil S z) →
    (pos (new_height old z) ≡ z) × T (is_on (effective_stress soil S (new_height old z)))
unfolding on_curve new_height
on_curve_parts soil S old (pos W) t = (refl, t)
on_curve_parts soil S old (negsuc W) t = absurd t

-- all new water of a step that does not leave the curve is on it
pub stays_on : (site : Site) (s : State) (t : ℕ) → T (not (leaves_curve site s t)) →
    T (all_on_curve (skeleton site) site.solids (moved (upward_flows site.top site.bottom t (read_elements site s)) s.water))
unfolding leaves_curve
stays_on site s t h =
    let new = moved (upward_flows site.top site.bottom t (read_elements site s)) s.water in
    twice_not (all_on_curve (skeleton site) site.solids new) h
  where
    twice_not : (b : Bool) → T (not (not b)) → T b
    twice_not true t = tt
    twice_not false t = absurd t
