-- Given water is on the curve just where each height is.
use Prim.Native.Nat.{ℕ, zero, suc}
use lib.IntN.{pos}
use lib.ListN.{get_or}
use mathlib.Core.List.{List, ◌∷◌, map}
use mathlib.Core.Path.{◌≡◌, refl, ap}
use Rattle.numbers.specs.Arrays.{tabulate, first_places, every_index}
use Rattle.numbers.specs.Lists.{all, paired}
use Rattle.rules.specs.Curve.{is_on}
use Rattle.rules.specs.Layer.{Skeleton, effective_stress}
use Rattle.rules.specs.Step.{on_curve, all_on_curve}

-- two tables paired, one of them mapped
paired-map : {A B C D : Type 0} (h : A → C → D) (k : B → C) (n : ℕ) (f : ℕ → A) (g : ℕ → B) →
    paired h (tabulate n f) (map k (tabulate n g)) ≡ tabulate n (λ i. h (f i) (k (g i)))
unfolding paired tabulate
paired-map h k zero f g = refl
paired-map h k (suc n) f g = ap (λ l. h (f zero) (k (g zero)) ∷ l) (paired-map h k n (λ i. f (suc i)) (λ i. g (suc i)))

-- all heights are on the curve just where each is
pub each_on : (soil : Skeleton) (n : ℕ) (solids water : List ℕ) →
    all_on_curve soil (first_places n solids) (map pos (first_places n water)) ≡
    every_index n (λ j. is_on (effective_stress soil (get_or solids j 0) (get_or water j 0)))
unfolding all_on_curve first_places every_index on_curve
each_on soil n solids water = ap (all (λ on. on)) (paired-map (on_curve soil) pos n (λ i. get_or solids i 0) (λ i. get_or water i 0))
