-- The weights of a layer by index.
use Prim.Native.Nat.{ℕ, zero, suc, ◌+◌, ◌≤◌, ◌<◌}
use native.Mathlib.Nat.{le_of_suc-le-suc}
use native.Mathlib.Numerals.{add-one}
use native.Mathlib.Omega.{arith}
use lib.ListN.{length, get_or, drop}
use mathlib.Core.List.{List, [], ◌∷◌}
use mathlib.Core.Path.{◌≡◌, refl, ◌∙◌}
use Rattle.weights.specs.Weights.{weight_from, burden_at}
use Rattle.numbers.specs.Arrays.{first_places}
use Rattle.numbers.proofs.Filled.{length-tabulate, get_or-tabulate, drop-tabulate, drop-tabulate_end}
use Rattle.numbers.specs.Rounding.{floor}
use Rattle.numbers.specs.Sums.{sum}
use Rattle.rules.specs.Layer.{buoyant_weight, burden, burdens}

-- B at an index of a list
pub burden_at_lem : (g : ℕ) (Ss : List ℕ) (j d : ℕ) → j < length Ss → get_or (burdens g Ss) j 0 ≡ burden g (get_or Ss j d) (drop (suc j) Ss)
unfolding burdens
burden_at_lem g [] j d h = absurd (omega arith)
burden_at_lem g (S ∷ above) zero d h = refl
burden_at_lem g (S ∷ above) (suc j) d h = burden_at_lem g above j d (le_of_suc-le-suc h)

module _ (g n : ℕ) (solids : List ℕ) (j : ℕ) where
  -- one element and those above it
  pub weight_step : j < n → weight_from g n solids j ≡ buoyant_weight g (get_or solids j 0) + weight_from g n solids (j + 1)
  unfolding weight_from sum first_places
  weight_step h = rw (drop-tabulate n (λ i. get_or solids i 0) j h)

  pub weight_end : n ≤ j → weight_from g n solids j ≡ 0
  unfolding weight_from sum first_places
  weight_end h = rw (drop-tabulate_end n (λ i. get_or solids i 0) j h)

  -- B: those above it, and half its own
  pub burden_is : j < n → burden_at g n solids j ≡ weight_from g n solids (j + 1) + floor (buoyant_weight g (get_or solids j 0)) 2
  unfolding burden_at weight_from burden first_places
  burden_is h =
      burden_at_lem g (first_places n solids) j 0 (rw (length-tabulate n (λ i. get_or solids i 0)) h) ∙
      (rw (get_or-tabulate n (λ i. get_or solids i 0) j 0 h, add-one j))
