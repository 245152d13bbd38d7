-- A loop that tests every index: it fails, goes on, or ends, with the test of the rest as its invariant.
use Prim.Native.Nat.{ℕ, zero, suc, ◌+◌, ◌≤◌, ◌<◌}
use lib.Dec.{T}
use lib.ListN.{drop}
use mathlib.Core.Bool.{Bool, true, false, ◌&&◌}
use mathlib.Core.Path.{◌≡◌, refl, sym, ap, ◌∙◌}
use Rattle.numbers.specs.Arrays.{tabulate, every_index}
use Rattle.numbers.proofs.Filled.{tabulate_cong, drop-tabulate, drop-tabulate_end}
use Rattle.numbers.specs.Lists.{all}
use Rattle.numbers.proofs.Searches.{both, all_drop}

module _ (n : ℕ) (test : ℕ → Bool) where
  -- the indices from i on pass
  unfoldable pub rest_passes : ℕ → Bool
  rest_passes i = all (λ b. b) (drop i (tabulate n test))

  pub all_rest : rest_passes 0 ≡ every_index n test
  unfolding rest_passes every_index
  all_rest = refl

  rest_step : (i : ℕ) → i < n → rest_passes i ≡ test i && rest_passes (i + 1)
  unfolding rest_passes all
  rest_step i h = rw (drop-tabulate n test i h)

  module _ (i : ℕ) (inv : rest_passes i ≡ every_index n test) where
    one_more : i < n → (b : Bool) → test i ≡ b → b && rest_passes (i + 1) ≡ every_index n test
    one_more h b e = rw (← e) (sym (rest_step i h) ∙ inv)

    pub index_fails : i < n → test i ≡ false → false ≡ every_index n test
    index_fails h e = one_more h false e

    pub index_goes : i < n → test i ≡ true → rest_passes (i + 1) ≡ every_index n test
    index_goes h e = one_more h true e

    pub index_ends : n ≤ i → true ≡ every_index n test
    unfolding rest_passes all
    index_ends h = rw (drop-tabulate_end n test i h) at inv

  -- what passes at every index passes at one
  pub every_at : T (every_index n test) → (i : ℕ) → i < n → T (test i)
  unfolding every_index rest_passes
  every_at t i h = (both (test i) (rest_passes (i + 1)) (rw (rest_step i h) at (step t))).0
    where
      step : T (all (λ b. b) (tabulate n test)) → T (rest_passes i)
      step u = all_drop (λ b. b) (tabulate n test) i u

-- a test of every entry of a table is one of every index
pub all-tabulate : {A : Type 0} (test : A → Bool) (n : ℕ) (f : ℕ → A) → all test (tabulate n f) ≡ every_index n (λ i. test (f i))
unfolding all tabulate every_index
all-tabulate test zero f = refl
all-tabulate test (suc n) f = ap (λ (b : Bool). test (f zero) && b) (all-tabulate test n (λ k. f (suc k)))

-- tests that agree below n
pub every_cong : (n : ℕ) (f g : ℕ → Bool) → ((i : ℕ) → i < n → f i ≡ g i) → every_index n f ≡ every_index n g
unfolding every_index
every_cong n f g h = ap (all (λ b. b)) (tabulate_cong n f g h)
