-- Along a falling curve the ordinate never rises with the abscissa.
use Prim.Native.Nat.{ℕ, ◌-◌, ◌≤◌, ◌<◌, min, max}
use native.Mathlib.Nat.{le_trans, le_of_lt}
use native.Mathlib.Omega.{arith}
use lib.Dec.{T, leb, ltb, leb→le, ltb→lt, le→leb, T_not}
use borrow.Author.Tests.{leb-true, leb-false}
use mathlib.Core.Bool.{Bool, true, false, not, ◌&&◌}
use mathlib.Core.List.{List, [], ◌∷◌}
use mathlib.Core.Path.{◌≡◌, refl}
use Rattle.numbers.specs.Interpolation.{distance}
use Rattle.numbers.specs.Lists.{neighbours}
use Rattle.numbers.proofs.Searches.{both, joined}
use Rattle.numbers.proofs.Shares.{interpolates}
use Rattle.rules.specs.Curve.{Point, spans, interpolated, curve_at, is_on, value_of, falling}
use Rattle.quantities.specs.Quantities.{CurveValue}
use Rattle.std.specs.Prelude.{Some}

-- what a curve gives, by its first segment or by the rest
pub on_segment : (a b : Point) (rest : List Point) (x : ℕ) (P : CurveValue → Type 0) →
    (T (spans a b x) → P (Some (interpolated a b x))) → (T (not (spans a b x)) → P (curve_at (b ∷ rest) x)) → P (curve_at (a ∷ b ∷ rest) x)
unfolding curve_at
on_segment a b rest x P here there = go (spans a b x) here there
  where
    go : (c : Bool) → (T c → P (Some (interpolated a b x))) → (T (not c) → P (curve_at (b ∷ rest) x)) →
        P (elim c as (λ _. CurveValue) [ true ↦ Some (interpolated a b x) | false ↦ curve_at (b ∷ rest) x ])
    go true h t = h tt
    go false h t = t tt

-- two points of which the second has the smaller abscissa and the greater ordinate
pub record Falls (a b : Point) : Type 0 where
  pub left : b.abscissa < a.abscissa
  pub higher : a.ordinate < b.ordinate

pub falling_parts : (a b : Point) (rest : List Point) → T (falling (a ∷ b ∷ rest)) → Falls a b × T (falling (b ∷ rest))
unfolding falling neighbours
falling_parts a b rest f =
    let (h, t) = both (ltb a.ordinate b.ordinate && ltb b.abscissa a.abscissa) (falling (b ∷ rest)) f in
    let (y, x) = both (ltb a.ordinate b.ordinate) (ltb b.abscissa a.abscissa) h in
    (record { left = ltb→lt b.abscissa a.abscissa x; higher = ltb→lt a.ordinate b.ordinate y }, t)

module _ (a b : Point) (f : Falls a b) where
  pub spans-within : (x : ℕ) → T (spans a b x) → (b.abscissa ≤ x) × (x ≤ a.abscissa)
  unfolding spans
  spans-within x t =
      let (l, r) = both (leb (min a.abscissa b.abscissa) x) (leb x (max a.abscissa b.abscissa)) t in
      omega (arith, f.left, leb→le (min a.abscissa b.abscissa) x l, leb→le x (max a.abscissa b.abscissa) r)

  pub within-spans : (x : ℕ) → b.abscissa ≤ x → x ≤ a.abscissa → T (spans a b x)
  unfolding spans
  within-spans x h k =
      joined (leb (min a.abscissa b.abscissa) x) (leb x (max a.abscissa b.abscissa))
      (le→leb (min a.abscissa b.abscissa) x (omega arith)) (le→leb x (max a.abscissa b.abscissa) (omega arith))

  -- what is not past the first point nor on the segment lies left of it
  pub left_of : (x : ℕ) → x ≤ a.abscissa → T (not (spans a b x)) → x < b.abscissa
  left_of x k outside = go (leb b.abscissa x) refl
    where
      go : (c : Bool) → leb b.abscissa x ≡ c → x < b.abscissa
      go true e = absurd (T_not (spans a b x) outside (within-spans x (leb-true b.abscissa x e) k))
      go false e = leb-false b.abscissa x e

  -- a segment's ordinates lie between those of its points
  pub segment_from : (x : ℕ) → a.ordinate ≤ interpolated a b x
  unfolding interpolated
  segment_from x = omega arith

  pub segment_to : (x : ℕ) → b.abscissa ≤ x → x ≤ a.abscissa → interpolated a b x ≤ b.ordinate
  unfolding interpolated
  segment_to x h k =
      let i = interpolates (b.ordinate - a.ordinate) (distance a.abscissa b.abscissa) (omega (arith, f.left)) in
      omega (arith, f.higher, i.between (distance a.abscissa x) (omega arith))

  pub segment_falls : (x y : ℕ) → x ≤ y → y ≤ a.abscissa → interpolated a b y ≤ interpolated a b x
  unfolding interpolated
  segment_falls x y h k =
      let i = interpolates (b.ordinate - a.ordinate) (distance a.abscissa b.abscissa) (omega (arith, f.left)) in
      omega (arith, i.monotone (distance a.abscissa y) (distance a.abscissa x) (omega arith))

abbrev pub first_abscissa : List Point → ℕ
first_abscissa [] = 0
first_abscissa (a ∷ rest) = a.abscissa

abbrev pub first_ordinate : List Point → ℕ
first_ordinate [] = 0
first_ordinate (a ∷ rest) = a.ordinate

-- what is on a falling curve lies at or left of its first point, and not below it
pub on_from_first : (l : List Point) (x : ℕ) → T (falling l) → T (is_on (curve_at l x)) →
    (x ≤ first_abscissa l) × (first_ordinate l ≤ value_of (curve_at l x))
unfolding curve_at is_on value_of
on_from_first [] x f t = absurd t
on_from_first (a ∷ []) x f t = absurd t
on_from_first (a ∷ b ∷ rest) x f t =
    let (h, g) = falling_parts a b rest f in
    let ih = on_from_first (b ∷ rest) x g in
    on_segment a b rest x (λ v. T (is_on v) → (x ≤ a.abscissa) × (a.ordinate ≤ value_of v))
    (λ s _. ((spans-within a b h x s).1, segment_from a b h x))
    (λ _ u. let (l, m) = ih u in (omega (arith, h.left), omega (arith, h.higher)))
    t

-- from a point on the curve to the right, up to the first point, all is on the curve and nothing rises
pub never_rises : (l : List Point) (x y : ℕ) → T (falling l) → x ≤ y → y ≤ first_abscissa l → T (is_on (curve_at l x)) →
    T (is_on (curve_at l y)) × (value_of (curve_at l y) ≤ value_of (curve_at l x))
unfolding curve_at is_on value_of
never_rises [] x y f h k t = absurd t
never_rises (a ∷ []) x y f h k t = absurd t
never_rises (a ∷ b ∷ rest) x y f h k t =
    let (s, g) = falling_parts a b rest f in
    let ih = never_rises (b ∷ rest) x y g h in
    on_segment a b rest x
    (λ v. T (is_on v) → T (is_on (curve_at (a ∷ b ∷ rest) y)) × (value_of (curve_at (a ∷ b ∷ rest) y) ≤ value_of v))
    (λ sx _.
    let sy = within-spans a b s y (le_trans (spans-within a b s x sx).0 h) k in
    on_segment a b rest y (λ w. T (is_on w) × (value_of w ≤ interpolated a b x))
    (λ _. (tt, segment_falls a b s x y h k))
    (λ ny. absurd (T_not (spans a b y) ny sy)))
    (λ nx u.
    let low = on_from_first (b ∷ rest) x g u in
    on_segment a b rest y (λ w. T (is_on w) × (value_of w ≤ value_of (curve_at (b ∷ rest) x)))
    (λ sy. let (l, m) = spans-within a b s y sy in (tt, le_trans (segment_to a b s y l m) low.1))
    (λ ny. ih (le_of_lt (left_of a b s y k ny)) u))
    t
