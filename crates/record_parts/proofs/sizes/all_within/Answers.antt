use Prim.Native.Nat.{ℕ, ◌<◌}
use native.Mathlib.Omega.{arith}
use borrow.Author.Rules.{rules}
use lib.Dec.{T}
use lib.ListN.{length, get_or, take}
use mathlib.Core.Bool.{Bool, true}
use mathlib.Core.List.{List}
use mathlib.Core.Logic.{◌↔◌}
use mathlib.Core.Path.{◌≡◌}
use Rattle.laws.proofs.Every.{every_at, at_every, every_all}
use Rattle.numbers.specs.Arrays.{first_places}
use Rattle.numbers.proofs.Filled.{tabulate-get_or}
use Rattle.numbers.proofs.Searches.{passed, is_true, same_test}
use Rattle.numbers.specs.Lists.{all}
use Rattle.quantities.specs.Quantities.{within}
use Rattle.record_parts.proofs.sizes.all_within.Goals as goal

-- what passes just where each number does is the test of all
all_is : (test : ℕ → Bool) (xs : List ℕ) (r : Bool) → (r ≡ true ↔ ((j : ℕ) → j < length xs → test (get_or xs j 0) ≡ true)) → r ≡ all test xs
all_is test xs r told =
    let every = every_all test xs in
    same_test r (all test xs)
    (λ t. every.1 (at_every (λ n. T (test n)) xs 0 (λ j h. passed (told.0 (is_true r t) j h))))
    (λ t. passed (told.1 (λ j h. is_true (test (get_or xs j 0)) (every_at (λ n. T (test n)) xs j 0 (every.0 t) h))))

pub returns : goal.returns
unfolding first_places
returns g c =
    let a = c.args in
    rw (tabulate-get_or a.elements a.numbers.now 0 (omega arith))
    (all_is (within g.Q.Quantity.LIMITS) (take a.elements a.numbers.now) c.all.result (search rules))
