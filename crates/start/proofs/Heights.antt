-- Resting water, from the lowest element up.
use Prim.Native.Nat.{ℕ, zero, suc, ◌+◌, ◌≤◌, ◌<◌}
use native.Mathlib.Omega.{arith}
use lib.Dec.{leb}
use lib.ListN.{length}
use borrow.Author.Tests.{le-leb, lt-leb}
use mathlib.Core.Bool.{Bool, true, false}
use mathlib.Core.List.{List, [], ◌∷◌}
use Rattle.std.specs.Prelude.{Option, None, Some}
use Rattle.std.proofs.lemmas.Option.{none-some}
use mathlib.Core.Path.{◌≡◌, refl, sym, ap, ◌∙◌}
use Rattle.laws.specs.Every.{Every}
use Rattle.numbers.specs.Arrays.{tabulate}
use Rattle.numbers.specs.Lists.{least}
use Rattle.rules.specs.Layer.{Skeleton, effective_stress}
use Rattle.quantities.specs.Quantities.{water_limits}
use Rattle.numbers.specs.Lists.{prepended}
use Rattle.rules.specs.Start.{at_most, resting_water, last_stress, resting_from}
use Rattle.start.specs.Rest.{resting_heights}
use Rattle.rules.specs.Start.{resting_under}

module _ (soil : Skeleton) (load B S : ℕ) where
  -- load + B not above the last stress, and above it
  pub under_last : load + B ≤ last_stress soil.compressibility → resting_under soil load B S ≡ resting_water soil S (load + B)
  unfolding resting_under
  under_last h = rw (le-leb (load + B) (last_stress soil.compressibility) h, resting_under)

  pub above_last : last_stress soil.compressibility < load + B → resting_under soil load B S ≡ None
  unfolding resting_under
  above_last h = rw (lt-leb (load + B) (last_stress soil.compressibility) h, resting_under)

-- the resting water of one element before that of the rest
from_step : (soil : Skeleton) (load B S : ℕ) (Bs Ss : List ℕ) →
    resting_from soil load (B ∷ Bs) (S ∷ Ss) ≡ prepended (resting_under soil load B S) (resting_from soil load Bs Ss)
unfolding resting_from
from_step soil load B S Bs Ss = refl

-- where the rest have none, all have none
prepended_none : (o : Option ℕ) → prepended o None ≡ None
unfolding prepended
prepended_none (Some W) = refl
prepended_none None = refl

module _ (soil : Skeleton) (load : ℕ) where
  -- element i rests at a height
  abbrev pub RestsAt : (B S h : ℕ → ℕ) → ℕ → Type 0
  RestsAt B S h i = resting_under soil load (B i) (S i) ≡ Some (h i)

  -- all elements rest
  pub all_rest : (n : ℕ) (B S h : ℕ → ℕ) → ((i : ℕ) → i < n → RestsAt B S h i) →
      resting_from soil load (tabulate n B) (tabulate n S) ≡ Some (tabulate n h)
  unfolding tabulate prepended resting_from
  all_rest zero B S h e = refl
  all_rest (suc n) B S h e =
      from_step soil load (B 0) (S 0) (tabulate n (λ i. B (suc i))) (tabulate n (λ i. S (suc i))) ∙
      rw (e 0 (omega arith), all_rest n (λ i. B (suc i)) (λ i. S (suc i)) (λ i. h (suc i)) (λ i k. e (suc i) (omega arith)))

  -- some element does not
  pub one_not : (n j : ℕ) (B S : ℕ → ℕ) → j < n → resting_under soil load (B j) (S j) ≡ None →
      resting_from soil load (tabulate n B) (tabulate n S) ≡ None
  unfolding tabulate prepended
  one_not zero j B S h e = absurd (omega arith)
  one_not (suc n) zero B S h e =
      from_step soil load (B 0) (S 0) (tabulate n (λ i. B (suc i))) (tabulate n (λ i. S (suc i))) ∙ rw e
  one_not (suc n) (suc j) B S h e =
      from_step soil load (B 0) (S 0) (tabulate n (λ i. B (suc i))) (tabulate n (λ i. S (suc i))) ∙
      rw (one_not n j (λ i. B (suc i)) (λ i. S (suc i)) (omega arith) e) (prepended_none (resting_under soil load (B 0) (S 0)))

  -- where all elements rest, their resting water is that of as many as do
  pub heights_all : (Bs Ss water : List ℕ) → resting_from soil load Bs Ss ≡ Some water → resting_heights soil load Bs Ss ≡ water
  unfolding resting_from resting_heights prepended
  heights_all [] Ss water e = cc
  heights_all (B ∷ Bs) [] water e = cc
  heights_all (B ∷ Bs) (S ∷ Ss) water e = go (resting_under soil load B S) (resting_from soil load Bs Ss) (heights_all Bs Ss) water (sym (from_step soil load B S Bs Ss) ∙ e)
    where
      go : (o : Option ℕ) (rest : Option (List ℕ)) → ((water : List ℕ) → rest ≡ Some water → resting_heights soil load Bs Ss ≡ water) →
          (water : List ℕ) → prepended o rest ≡ Some water →
          ◌≡◌ {A = List ℕ} (elim o [ Some W ↦ W ∷ resting_heights soil load Bs Ss | None ↦ [] ]) water
      go None rest ih water e = absurd (none-some water e)
      go (Some W) None ih water e = absurd (none-some water e)
      go (Some W) (Some more) ih water e = let same = ih more refl in cc

-- the resting water of the first elements, up to one that does not rest, or of all
pub heights_until : (soil : Skeleton) (load n j : ℕ) (B S h : ℕ → ℕ) → j ≤ n →
    ((i : ℕ) → i < j → resting_under soil load (B i) (S i) ≡ Some (h i)) → (j < n → resting_under soil load (B j) (S j) ≡ None) →
    resting_heights soil load (tabulate n B) (tabulate n S) ≡ tabulate j h
unfolding tabulate resting_heights
heights_until soil load zero zero B S h k e f = refl
heights_until soil load zero (suc j) B S h k e f = absurd (omega arith)
heights_until soil load (suc n) zero B S h k e f = rw (f (omega arith), resting_heights)
heights_until soil load (suc n) (suc j) B S h k e f =
    rw (e 0 (omega arith), resting_heights)
    (ap (λ (l : List ℕ). h 0 ∷ l)
    (heights_until soil load n j (λ i. B (suc i)) (λ i. S (suc i)) (λ i. h (suc i)) (omega arith) (λ i l. e (suc i) (omega arith)) (λ l. f (omega arith))))

-- ---- how many heights, and how high

-- the least that passes a test is one of those tried
least_below : (test : ℕ → Bool) (count n found : ℕ) → least count n test ≡ Some found → found < n + count
unfolding least
least_below test zero n found e = absurd (none-some found e)
least_below test (suc count) n found e = go (test n) e (least_below test count (suc n) found)
  where
    go : (passes : Bool) → elim passes as (λ _. Option ℕ) [ true ↦ Some n | false ↦ least count (suc n) test ] ≡ Some found →
        (least count (suc n) test ≡ Some found → found < suc n + count) → found < n + suc count
    go true e later = let same : n ≡ found = cc in omega arith
    go false e later = omega (arith, later e)

module _ (soil : Skeleton) (load : ℕ) where
  under_most : (B S W : ℕ) → resting_under soil load B S ≡ Some W → W ≤ water_limits.most
  unfolding resting_under resting_water
  under_most B S W e = go (leb (load + B) (last_stress soil.compressibility)) e
    where
      go : (under : Bool) → elim under as (λ _. Option ℕ) [ true ↦ resting_water soil S (load + B) | false ↦ None ] ≡ Some W → W ≤ water_limits.most
      go true e = omega (arith, least_below (λ U. at_most (effective_stress soil S U) (load + B)) (suc water_limits.most) 0 W e)
      go false e = absurd (none-some W e)

  -- each keeps the greatest height
  pub heights_most : (Bs Ss : List ℕ) → Every (λ W. W ≤ water_limits.most) (resting_heights soil load Bs Ss)
  unfolding resting_heights Every
  heights_most [] Ss = tt
  heights_most (B ∷ Bs) [] = tt
  heights_most (B ∷ Bs) (S ∷ Ss) = go (resting_under soil load B S) (under_most B S) (heights_most Bs Ss)
    where
      go : (o : Option ℕ) → ((W : ℕ) → o ≡ Some W → W ≤ water_limits.most) →
          Every (λ W. W ≤ water_limits.most) (resting_heights soil load Bs Ss) →
          Every (λ W. W ≤ water_limits.most) (elim o [ Some W ↦ W ∷ resting_heights soil load Bs Ss | None ↦ [] ])
      go (Some W) most rest = (most W refl, rest)
      go None most rest = tt

  -- there are no more of them than elements
  pub heights_few : (Bs Ss : List ℕ) → length (resting_heights soil load Bs Ss) ≤ length Bs
  unfolding resting_heights
  heights_few [] Ss = omega arith
  heights_few (B ∷ Bs) [] = omega arith
  heights_few (B ∷ Bs) (S ∷ Ss) = go (resting_under soil load B S) (heights_few Bs Ss)
    where
      go : (o : Option ℕ) → length (resting_heights soil load Bs Ss) ≤ length Bs →
          length {A = ℕ} (elim o as (λ _. List ℕ) [ Some W ↦ W ∷ resting_heights soil load Bs Ss | None ↦ [] ]) ≤ length {A = ℕ} (B ∷ Bs)
      go (Some W) h = omega arith
      go None h = omega arith
