-- Arrays that are filled pair by pair.
use Prim.Native.Nat.{ℕ, ◌+◌, ◌*◌}
use mathlib.Core.List.{List}
use mathlib.Core.Path.{◌≡◌, refl, ap, ◌∙◌}
use Rattle.numbers.specs.Arrays.{filled, zeros}
use Rattle.numbers.specs.Bytes.{column}
use Rattle.rules.specs.Job.{firsts, pair_length}

-- the first fields of pairs, put in an array of zeros
pub firsts_read : (size : ℕ) (job : List ℕ) {offset offset' count count' : ℕ} {array blank : List ℕ} → blank ≡ zeros size → offset ≡ offset' →
    count ≡ count' → array ≡ filled blank count (column pair_length offset job) → array ≡ firsts size offset' count' job
unfolding firsts
firsts_read size job b o n e = e ∙ rw (b, o, n) refl

-- where the points of both curves and of the table begin
pub conductivity_at : {n n' m m' : ℕ} → n ≡ n' → m ≡ m' → 48 + 16 * n + 16 * m ≡ 48 + 16 * n' + 16 * m'
conductivity_at p q = rw (p, q) refl

pub table_at_lem : {n n' m m' k k' : ℕ} → n ≡ n' → m ≡ m' → k ≡ k' → 48 + 16 * n + 16 * m + 16 * k ≡ 48 + 16 * n' + 16 * m' + 16 * k'
table_at_lem p q r = rw (p, q, r) refl

pub second_at : {x y : ℕ} → x ≡ y → x + 8 ≡ y + 8
second_at e = ap (λ (z : ℕ). z + 8) e
