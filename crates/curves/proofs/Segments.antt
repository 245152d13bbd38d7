-- A curve read segment by segment, from an index on, and by any segment that spans the abscissa.
use Prim.Native.Nat.{ℕ, suc, ◌+◌, ◌≤◌, ◌<◌, min, max}
use native.Mathlib.Numerals.{add-one}
use native.Mathlib.Omega.{arith}
use lib.Dec.{T, leb}
use borrow.Author.Tests.{leb-true, leb-false}
use lib.ListN.{get_or, drop}
use mathlib.Core.Bool.{Bool, true, false, ◌&&◌}
use mathlib.Core.List.{List}
use mathlib.Core.Path.{◌≡◌, refl, sym, ap, subst, ◌∙◌}
use Rattle.laws.proofs.Segment.{spans_bounds, read_by_segment}
use Rattle.laws.specs.Segment.{OnSegment}
use Rattle.numbers.proofs.Filled.{length-tabulate, get_or-tabulate}
use Rattle.numbers.specs.Interpolation.{distance}
use Rattle.numbers.proofs.Searches.{passed}
use Rattle.rules.specs.Curve.{point, points, spans, interpolated, curve_at, segment_at, is_on, value_of}
use Rattle.quantities.specs.Quantities.{stress_limits, void_limits}
use Rattle.std.specs.Prelude.{None, Some}
use Rattle.rules.proofs.Points.{at, from_segment, from_point, from_last, from_end}
use Rattle.curves.specs.Named.{point_in, ReadOn}
use Rattle.curves.specs.Smooth.{Smooth}

-- what is off the curve is not on it
pub not_on : {A : Type 0} (y : ℕ) → None ≡ Some y → A
unfolding is_on
not_on y e = absurd (subst (λ v. T (is_on v)) (sym e) tt)

module _ (x0 x1 x : ℕ) where
  -- whichever way a segment goes, it spans what lies between its abscissas
  pub spans-up : (y0 y1 : ℕ) → x0 < x1 → spans (point x0 y0) (point x1 y1) x ≡ leb x0 x && leb x x1
  unfolding spans
  spans-up y0 y1 h =
      let low : min x0 x1 ≡ x0 = omega arith in
      let high : max x0 x1 ≡ x1 = omega arith in
      rw (low, high)

  pub spans-down : (y0 y1 : ℕ) → x1 ≤ x0 → spans (point x0 y0) (point x1 y1) x ≡ leb x1 x && leb x x0
  unfolding spans
  spans-down y0 y1 h =
      let low : min x0 x1 ≡ x1 = omega arith in
      let high : max x0 x1 ≡ x0 = omega arith in
      rw (low, high)

  -- what a segment spans is not farther than its end
  pub spans-near : (y0 y1 : ℕ) → spans (point x0 y0) (point x1 y1) x ≡ true → distance x0 x ≤ distance x0 x1
  spans-near y0 y1 e = omega (arith, spans_bounds (point x0 y0) (point x1 y1) x (passed e))

module _ (n : ℕ) (xs ys : List ℕ) (x i : ℕ) where
  -- a segment that spans x may be interpolated on
  pub interpolable : Smooth n xs ys → i + 1 < n → spans (at n xs ys i) (at n xs ys (i + 1)) x ≡ true →
      ((0 < distance (get_or xs i 0) (get_or xs (i + 1) 0)) × (distance (get_or xs i 0) x ≤ void_limits.most)) ×
      (((get_or ys i 0 ≤ get_or ys (i + 1) 0) × (get_or ys (i + 1) 0 ≤ stress_limits.most)) ×
      (distance (get_or xs i 0) x ≤ distance (get_or xs i 0) (get_or xs (i + 1) 0)))
  interpolable smooth h e =
      let near = spans-near (get_or xs i 0) (get_or xs (i + 1) 0) x (get_or ys i 0) (get_or ys (i + 1) 0) e in (
        (smooth.apart i h, omega (arith, smooth.abscissa_most i (omega arith), smooth.abscissa_most (i + 1) h)),
        ((smooth.higher i h, smooth.ordinate_most (i + 1) h), near),
      )

  -- the first segment from here spans x, or not, or there is none
  pub read_here : {y : ℕ} → i + 1 < n → spans (at n xs ys i) (at n xs ys (i + 1)) x ≡ true → y ≡ interpolated (at n xs ys i) (at n xs ys (i + 1)) x →
      Some y ≡ curve_at (drop i (points n xs ys)) x
  unfolding curve_at
  read_here h e is = rw (is, from_segment n xs ys i h, e, curve_at)

  pub read_on : i + 1 < n → spans (at n xs ys i) (at n xs ys (i + 1)) x ≡ false →
      curve_at (drop i (points n xs ys)) x ≡ curve_at (drop (i + 1) (points n xs ys)) x
  unfolding curve_at
  read_on h e = rw (from_segment n xs ys i h, from_point n xs ys (i + 1) h, e, curve_at)

  pub read_end : n ≤ i + 1 → curve_at (drop i (points n xs ys)) x ≡ None
  unfolding curve_at
  read_end h = go (leb n i) refl
    where
      go : (c : Bool) → leb n i ≡ c → curve_at (drop i (points n xs ys)) x ≡ None
      go true e = rw (from_end n xs ys i (leb-true n i e))
      go false e = let k = leb-false n i e in rw (from_last n xs ys i (omega arith))

  -- the same of the segment's number
  pub found_here : i + 1 < n → spans (at n xs ys i) (at n xs ys (i + 1)) x ≡ true → segment_at (points n xs ys) x ≡ i + segment_at (drop i (points n xs ys)) x →
      i ≡ segment_at (points n xs ys) x
  unfolding segment_at
  found_here h e so = let here : segment_at (drop i (points n xs ys)) x ≡ 0 = rw (from_segment n xs ys i h, e, segment_at) in omega (arith, so, here)

  pub found_on : i + 1 < n → spans (at n xs ys i) (at n xs ys (i + 1)) x ≡ false →
      segment_at (points n xs ys) x ≡ i + segment_at (drop i (points n xs ys)) x →
      segment_at (points n xs ys) x ≡ i + 1 + segment_at (drop (i + 1) (points n xs ys)) x
  unfolding segment_at
  found_on h e so =
      let on : segment_at (drop i (points n xs ys)) x ≡ suc (segment_at (drop (i + 1) (points n xs ys)) x) =
      rw (from_segment n xs ys i h, from_point n xs ys (i + 1) h, e, segment_at) in
      omega (arith, so, on)

  -- a value that a segment gives names that segment
  pub named : {y : ℕ} → OnSegment (point_in xs ys i) (point_in xs ys (i + 1)) x y → ReadOn xs ys x i (Some y)
  unfolding value_of
  named s = λ y e. subst (λ y. OnSegment (point_in xs ys i) (point_in xs ys (i + 1)) x y) (ap value_of e) s

  -- any segment that spans x reads the curve
  pub read_any : {y : ℕ} → Smooth n xs ys → i + 1 < n → spans (at n xs ys i) (at n xs ys (i + 1)) x ≡ true →
      y ≡ interpolated (at n xs ys i) (at n xs ys (i + 1)) x → Some y ≡ curve_at (points n xs ys) x
  unfolding points
  read_any smooth h e is =
      let d = point 0 0 in
      let here : get_or (points n xs ys) i d ≡ at n xs ys i = get_or-tabulate n (at n xs ys) i d (omega arith) in
      let next : get_or (points n xs ys) (suc i) d ≡ at n xs ys (i + 1) = rw (← add-one i) (get_or-tabulate n (at n xs ys) (i + 1) d h) in
      ap Some is ∙
      sym (rw (here, next) at
      (read_by_segment (points n xs ys) i d x smooth.one_way (rw (length-tabulate n (at n xs ys)) (omega arith)) (rw (here, next) (passed e))))
