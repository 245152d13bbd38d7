-- The points of two arrays, from an index on, as a loop over them reads them.
use Prim.Native.Nat.{ℕ, ◌+◌, ◌≤◌, ◌<◌}
use native.Mathlib.Omega.{arith}
use lib.Dec.{T, leb}
use borrow.Author.Tests.{leb-true, leb-false}
use lib.ListN.{get_or, drop}
use mathlib.Core.Bool.{Bool, true, false, ◌&&◌}
use mathlib.Core.List.{List, [], ◌∷◌}
use mathlib.Core.Path.{◌≡◌, refl, ap, ◌∙◌}
use Rattle.numbers.proofs.Filled.{drop-tabulate, drop-tabulate_end}
use Rattle.numbers.specs.Lists.{all, neighbours}
use Rattle.numbers.proofs.Searches.{both, all_drop, neighbours-drop}
use Rattle.rules.specs.Curve.{Point, point, points}

module _ (n : ℕ) (xs ys : List ℕ) where
  -- the point at an index
  abbrev pub at : ℕ → Point
  at i = point (get_or xs i 0) (get_or ys i 0)

  -- one more point
  pub from_point : (i : ℕ) → i < n → drop i (points n xs ys) ≡ at i ∷ drop (i + 1) (points n xs ys)
  unfolding points
  from_point i h = drop-tabulate n at i h

  -- a segment
  pub from_segment : (i : ℕ) → i + 1 < n → drop i (points n xs ys) ≡ at i ∷ at (i + 1) ∷ drop (i + 1 + 1) (points n xs ys)
  from_segment i h = from_point i (omega arith) ∙ ap (λ (l : List Point). at i ∷ l) (from_point (i + 1) h)

  -- the end, and the last point
  pub from_end : (i : ℕ) → n ≤ i → drop i (points n xs ys) ≡ []
  unfolding points
  from_end i h = drop-tabulate_end n at i h

  pub from_last : (i : ℕ) → i + 1 ≡ n → drop i (points n xs ys) ≡ at i ∷ []
  from_last i h = from_point i (omega arith) ∙ ap (λ (l : List Point). at i ∷ l) (from_end (i + 1) (omega arith))

  -- a test of every point, and of every two neighbours, from an index on
  module _ (i : ℕ) where
    pub all_step : (test : Point → Bool) → i < n →
        all test (drop i (points n xs ys)) ≡ test (at i) && all test (drop (i + 1) (points n xs ys))
    unfolding all
    all_step test h = rw (from_point i h)

    pub all_end : (test : Point → Bool) → n ≤ i → all test (drop i (points n xs ys)) ≡ true
    unfolding all
    all_end test h = rw (from_end i h)

    pub neighbours_step : (test : Point → Point → Bool) → i + 1 < n →
        neighbours test (drop i (points n xs ys)) ≡ test (at i) (at (i + 1)) && neighbours test (drop (i + 1) (points n xs ys))
    unfolding neighbours
    neighbours_step test h = rw (from_segment i h, from_point (i + 1) h)

    pub neighbours_end : (test : Point → Point → Bool) → n ≤ i + 1 → neighbours test (drop i (points n xs ys)) ≡ true
    unfolding neighbours
    neighbours_end test h = go (leb n i) refl
      where
        go : (c : Bool) → leb n i ≡ c → neighbours test (drop i (points n xs ys)) ≡ true
        go true e = rw (from_end i (leb-true n i e))
        go false e = let k = leb-false n i e in rw (from_last i (omega arith))

  -- what a test of all says of the point, and of the segment, at an index
  pub all_at : (test : Point → Bool) → T (all test (points n xs ys)) → (i : ℕ) → i < n → T (test (at i))
  all_at test t i h =
      (both (test (at i)) (all test (drop (i + 1) (points n xs ys)))
      (rw (all_step i test h) at (all_drop test (points n xs ys) i t))).0

  pub neighbours_at : (test : Point → Point → Bool) → T (neighbours test (points n xs ys)) → (i : ℕ) → i + 1 < n → T (test (at i) (at (i + 1)))
  neighbours_at test t i h =
      (both (test (at i) (at (i + 1))) (neighbours test (drop (i + 1) (points n xs ys)))
      (rw (neighbours_step i test h) at (neighbours-drop test (points n xs ys) i t))).0
