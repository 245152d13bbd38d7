-- A rising curve covers just the void ratios between its first and its last.
use Prim.Native.Nat.{ℕ, zero, suc, ◌-◌, ◌≤◌, ◌<◌}
use native.Mathlib.Omega.{arith}
use lib.ListN.{get_or}
use mathlib.Core.Bool.{true}
use mathlib.Core.List.{List}
use mathlib.Core.Path.{◌≡◌, refl, ap}
use Rattle.laws.proofs.Rising.{last_abscissa, rising_on}
use Rattle.numbers.specs.Arrays.{tabulate}
use Rattle.numbers.proofs.Filled.{length-tabulate}
use Rattle.numbers.specs.Lists.{last_or}
use Rattle.numbers.proofs.Searches.{passed, same_test}
use Rattle.rules.specs.Curve.{Point, points, curve_at, is_on, rising}
use Rattle.quantities.specs.Quantities.{within, from◌to◌}
use Rattle.rules.proofs.Falling.{first_abscissa}
use Rattle.quantities.proofs.Limits.{within_parts, inside}
use Rattle.rules.proofs.Points.{at}

last_tabulate : {A : Type 0} (m : ℕ) (f : ℕ → A) → last_or (f zero) (tabulate m (λ k. f (suc k))) ≡ f m
unfolding last_or tabulate
last_tabulate zero f = refl
last_tabulate (suc m) f = last_tabulate m (λ k. f (suc k))

-- the first and the last void ratio of a curve's arrays
pub ends : (n : ℕ) (xs ys : List ℕ) → 0 < n →
    (first_abscissa (points n xs ys) ≡ get_or xs 0 0) × (last_abscissa (points n xs ys) ≡ get_or xs (n - 1) 0)
unfolding points tabulate
ends zero xs ys h = absurd (omega arith)
ends (suc n) xs ys h =
    let e : suc n - 1 ≡ n = omega arith in
    (refl, rw e (ap (λ (p : Point). p.abscissa) (last_tabulate n (at (suc n) xs ys))))

module _ (n : ℕ) (void conductivity : List ℕ) (two : 2 ≤ n) (rises : rising (points n void conductivity) ≡ true) where
  -- x lies between the ends just where it is on the curve
  pub between_ends : (x : ℕ) → within (from get_or void 0 0 to get_or void (n - 1) 0) x ≡ is_on (curve_at (points n void conductivity) x)
  unfolding points
  between_ends x =
      let limits = from get_or void 0 0 to get_or void (n - 1) 0 in
      let (first, last) = ends n void conductivity (omega arith) in
      let on = rising_on (points n void conductivity) x (passed rises) (rw (length-tabulate n (at n void conductivity)) two) in
      same_test (within limits x) (is_on (curve_at (points n void conductivity) x))
      (λ t. let (l, m) = within_parts limits x t in on.1 (rw first l, rw last m))
      (λ t. let (l, m) = on.0 t in passed (inside limits x (rw first at l) (rw last at m)))
