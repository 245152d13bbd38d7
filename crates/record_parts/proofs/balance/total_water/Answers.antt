use Prim.Native.Nat.{ℕ, ◌+◌, ◌*◌, ◌≤◌, ◌<◌}
use native.Mathlib.Omega.{arith}
use lib.ListN.{length, get_or, take}
use mathlib.Core.List.{List, [], ◌∷◌}
use mathlib.Core.Path.{◌≡◌, ◌∙◌}
use Rattle.std.proofs.lemmas.Grind.{common_steps}
use Rattle.std.specs.List as std
use Rattle.numbers.specs.Arrays.{first_places}
use Rattle.numbers.proofs.Filled.{first_length, first_at, tabulate-get_or}
use Rattle.numbers.specs.Sums.{sum}
use Rattle.numbers.proofs.Sums.{sum_le}
use Rattle.quantities.specs.Quantities.{water_limits}
use Rattle.record_parts.proofs.balance.total_water.Goals as goal

-- a sum from the left is the same from the right
folded : (a : ℕ) (xs : List ℕ) → std.fold (λ a x. a + x) a xs ≡ a + sum xs
unfolding sum
folded a [] = omega arith
folded a (x ∷ xs) = folded (a + x) xs ∙ omega arith

-- the sum of the first places, and its bound
first_sum : (n most : ℕ) (xs : List ℕ) → n ≤ length xs → ((j : ℕ) → j < n → get_or xs j 0 ≤ most) →
    (std.sum (take n xs) ≡ sum (first_places n xs)) × (sum (first_places n xs) ≤ n * most)
unfolding first_places
first_sum n most xs enough each =
    let l = first_length n xs in (
      folded 0 (take n xs) ∙ rw (tabulate-get_or n xs 0 enough) (omega arith),
      rw l at (sum_le most (first_places n xs) (λ j h. let k : j < n = rw l at h in rw (first_at n xs j k) (each j k))),
    )

pub sum-requires-clause-fits : goal.sum-requires-clause-fits
sum-requires-clause-fits c =
    let s = first_sum _ water_limits.most _ (omega arith) c.requires.by_index in grind (arith, common_steps)

pub returns : goal.returns
returns c = let s = first_sum _ water_limits.most _ (omega arith) c.requires.by_index in grind (arith, common_steps)
