-- Rising and falling curves go one way: what is on them lies between their first and their last point, and all that does is on them.
use Prim.Native.Nat.{ℕ, ◌≤◌, ◌<◌, min, max}
use native.Mathlib.Nat.{le_refl}
use native.Mathlib.Omega.{arith}
use lib.Dec.{T, ltb, leb, ltb→lt, leb→le}
use lib.ListN.{length}
use mathlib.Core.Bool.{◌&&◌}
use mathlib.Core.List.{List, [], ◌∷◌}
use mathlib.Core.Logic.{◌↔◌, ◌⊎◌, ⊎_elim}
use mathlib.Core.Path.{◌≡◌, refl}
use Rattle.numbers.specs.Lists.{last_or}
use Rattle.numbers.proofs.Searches.{both}
use Rattle.rules.specs.Curve.{Point, curve_at, is_on, value_of, rising, falling}
use Rattle.quantities.specs.Quantities.{CurveValue}
use Rattle.std.specs.Prelude.{None, Some}
use Rattle.rules.proofs.Falling.{first_abscissa, first_ordinate}
use Rattle.laws.specs.Segment.{OneWay}
use Rattle.laws.proofs.Segment.{on_inside, between_on, one_way, spans_bounds, bounds_spans}

-- the last point's abscissa and ordinate, 0 where there is no point
abbrev pub last_abscissa : List Point → ℕ
last_abscissa [] = 0
last_abscissa (a ∷ rest) = (last_or a rest).abscissa

abbrev pub last_ordinate : List Point → ℕ
last_ordinate [] = 0
last_ordinate (a ∷ rest) = (last_or a rest).ordinate

-- on a curve that goes one way values lie between the first and the last ordinate
pub value_between : (l : List Point) (x : ℕ) → OneWay l → T (is_on (curve_at l x)) →
    (first_ordinate l ≤ value_of (curve_at l x)) × (value_of (curve_at l x) ≤ last_ordinate l)
unfolding curve_at is_on last_or
value_between [] x w t = absurd t
value_between (a ∷ []) x w t = absurd t
value_between (a ∷ b ∷ rest) x w t = let i = on_inside a b rest x w t in (i.least, i.most)

-- x is on a curve that goes one way just where it lies between the first and the last abscissa
pub on_between : (l : List Point) (x : ℕ) → OneWay l → 2 ≤ length l →
    T (is_on (curve_at l x)) ↔
    ((min (first_abscissa l) (last_abscissa l) ≤ x) × (x ≤ max (first_abscissa l) (last_abscissa l)))
unfolding last_or
on_between [] x w h = absurd (omega arith)
on_between (a ∷ []) x w h = absurd (omega arith)
on_between (a ∷ b ∷ rest) x w h = (
  (λ t. spans_bounds a (last_or b rest) x (on_inside a b rest x w t).spanned),
  λ s. between_on a b rest x w (bounds_spans a (last_or b rest) x s.0 s.1),
)

-- what lies between two abscissas on the curve is on it
pub no_gap : (l : List Point) (u v x : ℕ) → OneWay l → T (is_on (curve_at l u)) → T (is_on (curve_at l v)) →
    min u v ≤ x → x ≤ max u v → T (is_on (curve_at l x))
unfolding curve_at is_on
no_gap [] u v x w s t h k = absurd s
no_gap (a ∷ []) u v x w s t h k = absurd s
no_gap (a ∷ b ∷ rest) u v x w s t h k =
    let two : 2 ≤ length (a ∷ b ∷ rest) = omega arith in
    let on = on_between (a ∷ b ∷ rest) in
    (on x w two).1 (omega (arith, (on u w two).0 s, (on v w two).0 t))

-- what is not on a curve is off it
pub off_unless_on : (v : CurveValue) → (T (is_on v) → ⊥) → v ≡ None
unfolding is_on
off_unless_on (Some value) h = absurd (h tt)
off_unless_on None h = refl

-- beside all points x is off the curve
pub outside_off : (l : List Point) (x : ℕ) → OneWay l →
    (x < min (first_abscissa l) (last_abscissa l)) ⊎ (max (first_abscissa l) (last_abscissa l) < x) → curve_at l x ≡ None
unfolding curve_at
outside_off [] x w h = refl
outside_off (a ∷ []) x w h = refl
outside_off (a ∷ b ∷ rest) x w h =
    off_unless_on (curve_at (a ∷ b ∷ rest) x)
    (λ t. let (l, m) = (on_between (a ∷ b ∷ rest) x w (omega arith)).0 t in ⊎_elim (λ k. omega arith) (λ k. omega arith) h)

-- ---- rising curves

-- a rising curve goes one way, and its last abscissa is not before the first
pub rising_way : (l : List Point) → T (rising l) → (first_abscissa l ≤ last_abscissa l) × OneWay l
unfolding rising OneWay
rising_way [] t = (le_refl 0, tt)
rising_way (a ∷ rest) t =
    one_way (λ a b. ltb a.abscissa b.abscissa && leb a.ordinate b.ordinate) (λ a z. a.abscissa ≤ z.abscissa)
    (λ a. le_refl a.abscissa)
    (λ a b z t h.
    let (x, y) = both (ltb a.abscissa b.abscissa) (leb a.ordinate b.ordinate) t in
    omega (arith, ltb→lt a.abscissa b.abscissa x, leb→le a.ordinate b.ordinate y))
    a rest t

-- x is on a rising curve just where it lies between the first and the last abscissa
pub rising_on : (l : List Point) (x : ℕ) → T (rising l) → 2 ≤ length l →
    T (is_on (curve_at l x)) ↔ ((first_abscissa l ≤ x) × (x ≤ last_abscissa l))
rising_on l x t h =
    let (order, w) = rising_way l t in
    let e = on_between l x w h in
    (λ s. omega (arith, e.0 s), λ s. e.1 (omega arith))

-- ---- falling curves

-- a falling curve goes one way, and its last abscissa is not past the first
pub falling_way : (l : List Point) → T (falling l) → (last_abscissa l ≤ first_abscissa l) × OneWay l
unfolding falling OneWay
falling_way [] t = (le_refl 0, tt)
falling_way (a ∷ rest) t =
    one_way (λ a b. ltb a.ordinate b.ordinate && ltb b.abscissa a.abscissa) (λ a z. z.abscissa ≤ a.abscissa)
    (λ a. le_refl a.abscissa)
    (λ a b z t h.
    let (y, x) = both (ltb a.ordinate b.ordinate) (ltb b.abscissa a.abscissa) t in
    omega (arith, ltb→lt b.abscissa a.abscissa x, ltb→lt a.ordinate b.ordinate y))
    a rest t

-- x is on a falling curve just where it lies between the last and the first abscissa
pub falling_on : (l : List Point) (x : ℕ) → T (falling l) → 2 ≤ length l →
    T (is_on (curve_at l x)) ↔ ((last_abscissa l ≤ x) × (x ≤ first_abscissa l))
falling_on l x t h =
    let (order, w) = falling_way l t in
    let e = on_between l x w h in
    (λ s. omega (arith, e.0 s), λ s. e.1 (omega arith))
