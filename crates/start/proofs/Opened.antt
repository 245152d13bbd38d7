-- The water of a start, from what the functions answer.
use Prim.Native.Nat.{ℕ, ◌<◌}
use lib.Dec.{eqb}
use lib.IntN.{pos}
use lib.ListN.{get_or}
use mathlib.Core.Bool.{Bool, true, false, cond}
use mathlib.Core.List.{List, map}
use Rattle.std.specs.Prelude.{Option, None, Some}
use mathlib.Core.Path.{◌≡◌, refl, sym, ap, ◌∙◌}
use Rattle.laws.proofs.Lengths.{burdens-length}
use Rattle.numbers.specs.Arrays.{first_places, overlaid}
use Rattle.numbers.proofs.Filled.{length-tabulate, tabulated}
use Rattle.rules.specs.Layer.{Skeleton, burdens}
use Rattle.rules.specs.Start.{resting_from, start_water}
use Rattle.rules.specs.Step.{all_on_curve}
use Rattle.start.specs.Rest.{resting_heights, all_or_none}
use Rattle.start.proofs.Heights.{heights_all}

-- an array of burdens holds the list of them
pub burdens_in_lem : (g n : ℕ) (solids burden : List ℕ) →
    ((j : ℕ) → j < n → get_or burden j 0 ≡ get_or (burdens g (first_places n solids)) j 0) → burdens g (first_places n solids) ≡ first_places n burden
unfolding first_places
burdens_in_lem g n solids burden same =
    tabulated n (λ j. get_or burden j 0) (burdens g (first_places n solids)) 0
    (burdens-length g (first_places n solids) ∙ length-tabulate n (λ j. get_or solids j 0)) (λ j h. sym (same j h))

module _ (soil : Skeleton) (Bs Ss : List ℕ) (may_rest : Bool) (start : ℕ) (given : List ℕ) (load : ℕ) where
  -- the starts 0 and 2: as given, where all of it is on the curve
  pub given_start : eqb start 1 ≡ false →
      start_water soil Bs Ss may_rest start given load ≡ all_or_none (all_on_curve soil Ss (map pos given)) given
  unfolding start_water all_or_none
  given_start e = rw (e, start_water) (go (all_on_curve soil Ss (map pos given)))
    where
      go : (on : Bool) → ◌≡◌ {A = Option (List ℕ)} (cond on (Some given) None) (all_or_none on given)
      go true = refl
      go false = refl

  -- start 1: at rest, where every element is, and none over another level
  pub resting_start : eqb start 1 ≡ true → may_rest ≡ true → start_water soil Bs Ss may_rest start given load ≡ resting_from soil load Bs Ss
  unfolding start_water
  resting_start e over = rw (e, over, start_water)

  pub unrested_start : eqb start 1 ≡ true → may_rest ≡ false → start_water soil Bs Ss may_rest start given load ≡ None
  unfolding start_water
  unrested_start e over = rw (e, over, start_water)

-- the array of resting water, where every element rests
pub resting_array : (soil : Skeleton) (load : ℕ) (Bs Ss water start after : List ℕ) → resting_from soil load Bs Ss ≡ Some water →
    after ≡ overlaid (resting_heights soil load Bs Ss) start → after ≡ overlaid water start
resting_array soil load Bs Ss water start after e k = k ∙ ap (λ (l : List ℕ). overlaid l start) (heights_all soil load Bs Ss water e)
