-- An array that is filled with resting water, as a loop does it.
use Prim.Native.Nat.{ℕ, ◌≤◌, ◌<◌}
use native.Mathlib.Omega.{arith}
use lib.ListN.{get_or}
use mathlib.Core.List.{List}
use Rattle.std.specs.Prelude.{Option, None, Some}
use mathlib.Core.Path.{◌≡◌, sym, ap, ◌∙◌}
use Rattle.std.specs.Option.{unwrap_or}
use Rattle.numbers.specs.Arrays.{first_places, overlaid, filled}
use Rattle.numbers.proofs.Filled.{tabulate_cong, get_or-filled, filled_done}
use Rattle.rules.specs.Layer.{Skeleton}
use Rattle.rules.specs.Start.{resting_from}
use Rattle.start.specs.Rest.{resting_heights}
use Rattle.rules.specs.Start.{resting_under}
use Rattle.start.proofs.Heights.{all_rest, one_not, heights_until}

-- the resting water of element i, as arrays hold the layer
abbrev pub resting_at : (soil : Skeleton) (load : ℕ) (burden solids : List ℕ) → ℕ → Option ℕ
resting_at soil load burden solids i = resting_under soil load (get_or burden i 0) (get_or solids i 0)

-- its height, 0 where it has none
abbrev pub height_at : (soil : Skeleton) (load : ℕ) (burden solids : List ℕ) → ℕ → ℕ
height_at soil load burden solids i = unwrap_or (resting_at soil load burden solids i) 0

-- the height that is found
pub height_is : {o : Option ℕ} {W : ℕ} → o ≡ Some W → W ≡ unwrap_or o 0
height_is e = sym (ap (λ (p : Option ℕ). unwrap_or p 0) e)

module _ (soil : Skeleton) (load n : ℕ) (burden solids start water : List ℕ) (j : ℕ)
    (so_far : water ≡ filled start j (height_at soil load burden solids))
    (rest : (i : ℕ) → i < j → resting_at soil load burden solids i ≡ Some (height_at soil load burden solids i)) where
  abbrev Bs : List ℕ
  Bs = first_places n burden

  abbrev Ss : List ℕ
  Ss = first_places n solids

  abbrev B : ℕ → ℕ
  B i = get_or burden i 0

  abbrev S : ℕ → ℕ
  S i = get_or solids i 0

  abbrev height : ℕ → ℕ
  height = height_at soil load burden solids

  -- the array has the resting water of the first elements, up to one that does not rest, or of all
  filled_until : j ≤ n → (j < n → resting_at soil load burden solids j ≡ None) → water ≡ overlaid (resting_heights soil load Bs Ss) start
  unfolding first_places filled
  filled_until h e = so_far ∙ ap (λ (l : List ℕ). overlaid l start) (sym (heights_until soil load n j B S height h rest e))

  -- an element does not rest
  pub filling_stops : j < n → resting_at soil load burden solids j ≡ None →
      (resting_from soil load Bs Ss ≡ None) × (water ≡ overlaid (resting_heights soil load Bs Ss) start)
  unfolding first_places
  filling_stops h e = (one_not soil load n j B S h e, filled_until (omega arith) (λ _. e))

  -- all elements rest
  pub filling_ends : j ≡ n →
      (resting_from soil load Bs Ss ≡ Some (first_places n water)) ×
      (water ≡ overlaid (resting_heights soil load Bs Ss) start)
  unfolding first_places
  filling_ends h =
      let each : (i : ℕ) → i < n → resting_at soil load burden solids i ≡ Some (height i) = λ i k. rest i (omega arith) in
      let done = filled_done start water j n height so_far h in
      let place : (i : ℕ) → i < n → height i ≡ get_or water i 0 =
      λ i k. sym (ap (λ (l : List ℕ). get_or l i 0) done ∙ get_or-filled start n height i 0 k) in (
        all_rest soil load n B S height each ∙ ap Some (tabulate_cong n height (λ i. get_or water i 0) place),
        filled_until (omega arith) (λ k. absurd (omega arith)),
      )
