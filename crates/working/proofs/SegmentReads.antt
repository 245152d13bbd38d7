-- The segment that a reading finds spans its abscissa, and its interpolation leaves what the curve's does.
use Prim.Native.Nat.{ℕ, suc, ◌+◌, ◌-◌, ◌<◌}
use native.Mathlib.Numerals.{add-one}
use native.Mathlib.Omega.{arith}
use lib.Dec.{T}
use lib.ListN.{get_or}
use mathlib.Core.Bool.{Bool, true, false}
use mathlib.Core.List.{List, [], ◌∷◌}
use mathlib.Core.Path.{◌≡◌, refl, sym, ◌∙◌}
use Rattle.curves.specs.Named.{point_in}
use Rattle.laws.specs.Segment.{OnSegment}
use Rattle.numbers.proofs.Filled.{get_or-tabulate}
use Rattle.numbers.proofs.Searches.{passed, is_true}
use Rattle.quantities.specs.Quantities.{CurveValue}
use Rattle.std.specs.Prelude.{None, Some}
use Rattle.rules.proofs.Points.{at}
use Rattle.rules.specs.Curve.{Point, point, points, spans, curve_at, segment_at, curve_remainder, interpolation_remainder, is_on, value_of}
use Rattle.rules.specs.Layer.{skeleton_of, void_ratio, effective_stress}
use Rattle.working.specs.Segments.{SegmentDivides, ReadingDivides}
use Rattle.working.specs.Working.{curve_reading}

-- a value on the curve
pub on_is : (v : CurveValue) → is_on v ≡ true → v ≡ Some (value_of v)
unfolding is_on value_of
on_is (Some y) e = refl
on_is None e = absurd (passed e)

-- segment i of a curve is the one that is read at x
pub record SegmentRead (curve : List Point) (x i : ℕ) (d : Point) : Type 0 where
  pub spanned : T (spans (get_or curve i d) (get_or curve (suc i) d) x)
  pub leaves : curve_remainder curve x ≡ interpolation_remainder (get_or curve i d) (get_or curve (suc i) d) x

pub segment_read : (curve : List Point) (x : ℕ) (d : Point) → T (is_on (curve_at curve x)) → SegmentRead curve x (segment_at curve x) d
unfolding curve_at is_on segment_at curve_remainder
segment_read [] x d on = absurd on
segment_read (a ∷ []) x d on = absurd on
segment_read (a ∷ b ∷ rest) x d on = go (segment_read (b ∷ rest) x d) (spans a b x) refl
  where
    here : spans a b x ≡ true → SegmentRead (a ∷ b ∷ rest) x (segment_at (a ∷ b ∷ rest) x) d
    here e =
        let number : segment_at (a ∷ b ∷ rest) x ≡ 0 = rw (e, segment_at) in
        let left : curve_remainder (a ∷ b ∷ rest) x ≡ interpolation_remainder a b x = rw (e, curve_remainder) in
        rw number (record { spanned = passed e; leaves = left })

    later : SegmentRead (b ∷ rest) x (segment_at (b ∷ rest) x) d → spans a b x ≡ false → SegmentRead (a ∷ b ∷ rest) x (segment_at (a ∷ b ∷ rest) x) d
    later read e =
        let number : segment_at (a ∷ b ∷ rest) x ≡ suc (segment_at (b ∷ rest) x) = rw (e, segment_at) in
        let left : curve_remainder (a ∷ b ∷ rest) x ≡ curve_remainder (b ∷ rest) x = rw (e, curve_remainder) in
        rw number (record { spanned = read.spanned; leaves = left ∙ read.leaves })

    go : (T (is_on (curve_at (b ∷ rest) x)) → SegmentRead (b ∷ rest) x (segment_at (b ∷ rest) x) d) → (c : Bool) → spans a b x ≡ c →
        SegmentRead (a ∷ b ∷ rest) x (segment_at (a ∷ b ∷ rest) x) d
    go rest_read true e = here e
    go rest_read false e =
        let same : curve_at (a ∷ b ∷ rest) x ≡ curve_at (b ∷ rest) x = rw (e, curve_at) in
        later (rest_read (rw same at on)) e

-- the same of a curve as arrays hold it
module _ (n : ℕ) (xs ys : List ℕ) (x i : ℕ) (two : i + 1 < n) (found : i ≡ segment_at (points n xs ys) x)
    (on : is_on (curve_at (points n xs ys) x) ≡ true) where
  abbrev d : Point
  d = point 0 0

  first_point : get_or (points n xs ys) i d ≡ at n xs ys i
  unfolding points
  first_point = get_or-tabulate n (at n xs ys) i d (omega arith)

  second_point : get_or (points n xs ys) (suc i) d ≡ at n xs ys (i + 1)
  unfolding points
  second_point = rw (← add-one i) (get_or-tabulate n (at n xs ys) (i + 1) d two)

  read_there : SegmentRead (points n xs ys) x i d
  read_there = rw found (segment_read (points n xs ys) x d (passed on))

  pub segment_spans : spans (at n xs ys i) (at n xs ys (i + 1)) x ≡ true
  segment_spans = is_true _ (rw (first_point, second_point) at read_there.spanned)

  pub segment_leaves : interpolation_remainder (at n xs ys i) (at n xs ys (i + 1)) x ≡ curve_remainder (points n xs ys) x
  segment_leaves = sym (rw (first_point, second_point) at read_there.leaves)

-- a reading by its parts
pub reading_is : (curve : List Point) (x : ℕ) {i value remainder : ℕ} → i ≡ segment_at curve x → value ≡ value_of (curve_at curve x) →
    remainder ≡ curve_remainder curve x → record { segment = i + 1; value = value; remainder = remainder } ≡ curve_reading curve x
unfolding curve_reading
reading_is curve x found value-is left = rw (found, value-is, left) refl

-- an element on the curve is on it at its void ratio
pub stands_at : (curve : List Point) (S W : ℕ) {E : ℕ} → E ≡ void_ratio S W → is_on (effective_stress (skeleton_of curve) S W) ≡ true →
    is_on (curve_at curve E) ≡ true
unfolding effective_stress
stands_at curve S W e on = rw e on

-- ---- the division on the segment

pub divides_there : (a b : Point) (x : ℕ) {y value r : ℕ} → value ≡ y → OnSegment a b x y → r ≡ interpolation_remainder a b x → SegmentDivides a b x value r
divides_there a b x value-is on left = rw (value-is, left) (record { value = on.value; leaves = refl; divides = on.divides })

pub reading_divides : (xs ys : List ℕ) (x i : ℕ) {y value r : ℕ} → value ≡ y → OnSegment (point_in xs ys i) (point_in xs ys (i + 1)) x y →
    r ≡ interpolation_remainder (point_in xs ys i) (point_in xs ys (i + 1)) x → ReadingDivides xs ys x (record { segment = i + 1; value = value; remainder = r })
reading_divides xs ys x i value-is on left =
    let first : i + 1 - 1 ≡ i = omega arith in
    rw first (divides_there (point_in xs ys i) (point_in xs ys (i + 1)) x value-is on left)
