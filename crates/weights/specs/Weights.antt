-- The weights of a layer's elements, as arrays hold its solids.
use Rattle.std.specs.Prelude.{ℕ, get_or, drop, List, map}
use Rattle.numbers.specs.Arrays.{first_places}
use Rattle.numbers.specs.Sums.{sum}
use Rattle.rules.specs.Layer.{buoyant_weight, burdens}

-- the weight of the elements from j up
unfoldable pub weight_from : (gravity elements : ℕ) (solids : List ℕ) → ℕ → ℕ
unfolding sum buoyant_weight first_places
weight_from gravity elements solids j = sum (map (buoyant_weight gravity) (drop j (first_places elements solids)))

-- B of element j
unfoldable pub burden_at : (gravity elements : ℕ) (solids : List ℕ) → ℕ → ℕ
unfolding burdens first_places
burden_at gravity elements solids j = get_or (burdens gravity (first_places elements solids)) j 0
