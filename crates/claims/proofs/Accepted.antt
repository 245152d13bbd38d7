-- What an accepted event meets: a load set, or a step taken.
use Prim.Native.Nat.{ℕ, ◌+◌, ◌≤◌}
use lib.Dec.{T}
use lib.IntN.{ℤ, pos}
use mathlib.Core.Bool.{not}
use mathlib.Core.List.{List, [], ◌∷◌}
use Rattle.laws.specs.Amid.{Between}
use Rattle.rules.specs.Layer.{Site, State}
use Rattle.quantities.specs.Quantities.{stress_limits, clock_limits}
use Rattle.rules.specs.Run.{Event, load_set, step_taken, after_event}
use Rattle.rules.specs.Step.{too_long, leaves_curve}

-- a load keeps the limits of a stress
abbrev pub LoadKept : ℤ → Type 0
LoadKept = Between (pos 0) (pos stress_limits.most)

-- what an accepted step meets
pub record StepAccepted (site : Site) (s : State) (t : ℕ) : Type 0 where
  pub least : 1 ≤ t
  pub clock_most : s.clock + t ≤ clock_limits.most
  pub short : T (not (too_long site s t))
  pub stays : T (not (leaves_curve site s t))

unfoldable pub Accepted : Site → State → Event → Type 0
Accepted site s (load_set load) = LoadKept load
Accepted site s (step_taken t) = StepAccepted site s t

-- events, each accepted in the state that those before it leave
unfoldable pub AllAccepted : Site → State → List Event → Type 0
unfolding Accepted
AllAccepted site s [] = Unit {0}
AllAccepted site s (e ∷ rest) = Accepted site s e × AllAccepted site (after_event site e s) rest
