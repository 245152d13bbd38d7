-- The longest step of a run is the greatest within reach that is not too long.
use Prim.Native.Nat.{ℕ, zero, suc, ◌≤◌, ◌<◌}
use native.Mathlib.Nat.{le_refl, le_trans, le_antisymm}
use native.Mathlib.Omega.{arith}
use lib.Dec.{T, T_not, leb, leb→le, nleb→lt}
use mathlib.Core.Bool.{Bool, true, false, not}
use mathlib.Core.Logic.{◌↔◌}
use mathlib.Core.Path.{◌≡◌}
use Rattle.numbers.specs.Lists.{greatest}
use Rattle.numbers.proofs.Searches.{by_test}
use Rattle.rules.specs.Layer.{Site, State}
use Rattle.rules.specs.Step.{too_long}
use Rattle.rules.specs.Run.{longest_reach, longest_step}
use Rattle.laws.proofs.Contacts.{step_shorter, no_step_short}

module _ (test : ℕ → Bool) where
  -- what holds of n + 1 where that passes, and of the greatest up to n where not, holds of the greatest up to n + 1
  on_greatest : (n : ℕ) (P : ℕ → Type 0) → (T (test (suc n)) → P (suc n)) → (T (not (test (suc n))) → P (greatest n test)) →
      P (greatest (suc n) test)
  unfolding greatest
  on_greatest n P here below =
      by_test (test (suc n)) (λ b. P (elim b as (λ _. ℕ) [ true ↦ suc n | false ↦ greatest n test ])) here below

  -- the greatest up to n is not above n
  pub greatest_most : (n : ℕ) → greatest n test ≤ n
  unfolding greatest
  greatest_most zero = le_refl 0
  greatest_most (suc n) =
      let ih = greatest_most n in
      on_greatest n (λ g. g ≤ suc n) (λ _. le_refl (suc n)) (λ _. omega arith)

  -- the greatest passes where 0 does
  pub greatest_passes : (n : ℕ) → T (test 0) → T (test (greatest n test))
  unfolding greatest
  greatest_passes zero t = t
  greatest_passes (suc n) t =
      let ih = greatest_passes n t in
      on_greatest n (λ g. T (test g)) (λ s. s) (λ _. ih)

  -- whatever passes up to n is not above the greatest
  pub greatest_reaches : (n m : ℕ) → m ≤ n → T (test m) → m ≤ greatest n test
  unfolding greatest
  greatest_reaches zero m h t = h
  greatest_reaches (suc n) m h t =
      let ih = greatest_reaches n m in
      on_greatest n (λ g. m ≤ g) (λ _. h)
      (λ fails.
      let other : m ≡ suc n → ⊥ = λ e. T_not (test (suc n)) fails (rw e at t) in
      ih (omega arith) t)

  -- where all below what passes passes, m is not above the greatest just if m is up to n and passes
  pub greatest_is : T (test 0) → ((m k : ℕ) → m ≤ k → T (test k) → T (test m)) → (n m : ℕ) →
      (m ≤ greatest n test) ↔ ((m ≤ n) × T (test m))
  greatest_is none below n m = (
    (λ h. (le_trans h (greatest_most n), below m (greatest n test) h (greatest_passes n none))),
    λ h. greatest_reaches n m h.0 h.1,
  )

module _ (site : Site) (end : ℕ) (s : State) where
  -- a step is not longer than the longest just if it is within reach and not too long
  pub longest_step_lem : (t : ℕ) → (t ≤ longest_step site end s) ↔ ((t ≤ longest_reach site end s.clock) × T (not (too_long site s t)))
  unfolding longest_step
  longest_step_lem = greatest_is (λ t. not (too_long site s t)) (no_step_short site s) (step_shorter site s) (longest_reach site end s.clock)

  -- the longest is within reach and not too long
  pub longest-accepted : (longest_step site end s ≤ longest_reach site end s.clock) × T (not (too_long site s (longest_step site end s)))
  longest-accepted = (longest_step_lem (longest_step site end s)).0 (le_refl (longest_step site end s))

  -- it is the one within reach that is not too long while a second more, if within reach, is
  pub longest_is : (t : ℕ) → t ≤ longest_reach site end s.clock → T (not (too_long site s t)) →
      (t < longest_reach site end s.clock → T (too_long site s (suc t))) → longest_step site end s ≡ t
  longest_is t h short more = le_antisymm no_longer ((longest_step_lem t).1 (h, short))
    where
      longest : ℕ
      longest = longest_step site end s

      no_longer : longest ≤ t
      no_longer =
          by_test (leb longest t) (λ _. longest ≤ t) (leb→le longest t)
          (λ n.
          let (within, still) = (longest_step_lem (suc t)).0 (nleb→lt longest t n) in
          absurd (T_not (too_long site s (suc t)) still (more within)))
