-- Water at rest, as the functions of a start answer it.
use Rattle.std.specs.Prelude.{ℕ, Bool, true, false, List, [], ◌∷◌}
use Rattle.std.specs.Prelude.{Option, None, Some}
use Rattle.rules.specs.Layer.{Skeleton}
use Rattle.rules.specs.Start.{resting_under}

-- the resting water of the elements from the lowest up, as far as they have some
unfoldable pub resting_heights : Skeleton → (load : ℕ) (Bs Ss : List ℕ) → List ℕ
unfolding resting_under
resting_heights soil load [] Ss = []
resting_heights soil load (B ∷ Bs) [] = []
resting_heights soil load (B ∷ Bs) (S ∷ Ss) =
    elim (resting_under soil load B S) [ Some W ↦ W ∷ resting_heights soil load Bs Ss | None ↦ [] ]

-- all of a list, or none of it
unfoldable pub all_or_none : Bool → List ℕ → Option (List ℕ)
all_or_none true water = Some water
all_or_none false water = None
