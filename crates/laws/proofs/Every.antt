-- What holds of every entry of a list, and what follows.
use Prim.Native.Nat.{ℕ, zero, suc, ◌<◌}
use native.Mathlib.Nat.{le_of_suc-le-suc, not-suc-le-zero}
use native.Mathlib.Omega.{arith}
use lib.Dec.{T}
use lib.ListN.{length, get_or}
use mathlib.Core.Bool.{Bool, true, false, not, ◌||◌}
use mathlib.Core.List.{List, [], ◌∷◌, ◌++◌}
use mathlib.Core.Logic.{◌↔◌}
use Rattle.numbers.specs.Arrays.{tabulate}
use Rattle.numbers.specs.Lists.{all, any}
use Rattle.numbers.proofs.Searches.{both, joined}
use Rattle.laws.specs.Every.{Every}

-- where not one of two tests passed, each failed
neither : (a b : Bool) → T (not (a || b)) → T (not a) × T (not b)
neither true b t = absurd t
neither false b t = (tt, t)

-- where each of two tests failed, not one passed
together : (a b : Bool) → T (not a) → T (not b) → T (not (a || b))
together true b s t = s
together false b s t = t

module _ {A : Type 0} where
  module _ (P : A → Type 0) where
    -- it holds at each place
    pub every_at : (l : List A) (i : ℕ) (d : A) → Every P l → i < length l → P (get_or l i d)
    unfolding Every
    every_at [] i d e h = absurd (not-suc-le-zero h)
    every_at (a ∷ rest) zero d e h = e.0
    every_at (a ∷ rest) (suc i) d e h = every_at rest i d e.1 (le_of_suc-le-suc h)

    -- what holds at each place holds of every entry
    pub at_every : (l : List A) (d : A) → ((i : ℕ) → i < length l → P (get_or l i d)) → Every P l
    unfolding Every
    at_every [] d h = tt
    at_every (a ∷ rest) d h = (h 0 (omega arith), at_every rest d (λ i k. h (suc i) (omega arith)))

    -- what holds of each entry that a list is made of holds of every entry
    pub every_tabulate : (n : ℕ) (f : ℕ → A) → ((i : ℕ) → i < n → P (f i)) → Every P (tabulate n f)
    unfolding Every tabulate
    every_tabulate zero f h = tt
    every_tabulate (suc n) f h = (h zero (omega arith), every_tabulate n (λ k. f (suc k)) (λ i k. h (suc i) (omega arith)))

    -- it holds of two lists joined just where it holds of each
    pub every_append : (l m : List A) → Every P (l ++ m) ↔ (Every P l × Every P m)
    unfolding Every
    every_append [] m = (λ e. (tt, e), λ e. e.1)
    every_append (a ∷ rest) m =
        let ih = every_append rest m in (
          (λ e. let (l, r) = ih.0 e.1 in ((e.0, l), r)),
          λ e. (e.0.0, ih.1 (e.0.1, e.1)),
        )

    -- what holds of everything holds of every entry
    pub every_of : ((a : A) → P a) → (l : List A) → Every P l
    unfolding Every
    every_of f [] = tt
    every_of f (a ∷ rest) = (f a, every_of f rest)

    -- what follows from P holds of every entry too
    pub every_map : (Q : A → Type 0) → ((a : A) → P a → Q a) → (l : List A) → Every P l → Every Q l
    unfolding Every
    every_map Q f [] e = tt
    every_map Q f (a ∷ rest) e = (f a e.0, every_map Q f rest e.1)

  -- all pass a test just where every entry passes it
  pub every_all : (test : A → Bool) (l : List A) → T (all test l) ↔ Every (λ a. T (test a)) l
  unfolding Every all
  every_all test [] = (λ t. t, λ e. e)
  every_all test (a ∷ rest) =
      let ih = every_all test rest in (
        (λ t. let (h, more) = both (test a) (all test rest) t in (h, ih.0 more)),
        λ e. joined (test a) (all test rest) e.0 (ih.1 e.1),
      )

  -- none passes a test just where every entry fails it
  pub every_none : (test : A → Bool) (l : List A) → T (not (any test l)) ↔ Every (λ a. T (not (test a))) l
  unfolding Every any
  every_none test [] = (λ t. t, λ e. e)
  every_none test (a ∷ rest) =
      let ih = every_none test rest in (
        (λ t. let (h, more) = neither (test a) (any test rest) t in (h, ih.0 more)),
        λ e. together (test a) (any test rest) e.0 (ih.1 e.1),
      )
