-- Curves whose abscissas go one way, up or down: any segment that spans an abscissa gives the curve's value there.
use Prim.Native.Nat.{ℕ, zero, suc, ◌-◌, ◌≤◌, ◌<◌, min, max}
use native.Mathlib.Nat.{le_refl, le_trans, le_antisymm, mul-zero, zero-div}
use native.Mathlib.Omega.{arith}
use lib.Dec.{T, leb, leb→le, le→leb, T_not}
use lib.ListN.{length, get_or}
use borrow.Author.Tests.{leb-true, leb-false}
use mathlib.Core.Bool.{Bool, true, false, not}
use mathlib.Core.List.{List, [], ◌∷◌}
use mathlib.Core.Logic.{◌⊎◌, inl, inr, ⊎_elim}
use mathlib.Core.Path.{◌≡◌, refl, sym, ap, ◌∙◌}
use Rattle.numbers.specs.Interpolation.{distance}
use Rattle.numbers.specs.Lists.{neighbours, last_or}
use Rattle.numbers.proofs.Searches.{both, joined}
use Rattle.numbers.proofs.Shares.{interpolates}
use Rattle.rules.specs.Curve.{Point, spans, interpolated, curve_at, is_on, value_of}
use Rattle.std.specs.Prelude.{None, Some}
use Rattle.rules.proofs.Falling.{on_segment}
use Rattle.laws.specs.Segment.{Onward, OneWay}

-- ---- one segment

module _ (a b : Point) where
  -- what a segment spans lies between the abscissas of its points
  pub spans_bounds : (x : ℕ) → T (spans a b x) → (min a.abscissa b.abscissa ≤ x) × (x ≤ max a.abscissa b.abscissa)
  unfolding spans
  spans_bounds x t =
      let (l, r) = both (leb (min a.abscissa b.abscissa) x) (leb x (max a.abscissa b.abscissa)) t in
      (leb→le (min a.abscissa b.abscissa) x l, leb→le x (max a.abscissa b.abscissa) r)

  -- and it spans all that does
  pub bounds_spans : (x : ℕ) → min a.abscissa b.abscissa ≤ x → x ≤ max a.abscissa b.abscissa → T (spans a b x)
  unfolding spans
  bounds_spans x l r =
      joined (leb (min a.abscissa b.abscissa) x) (leb x (max a.abscissa b.abscissa))
      (le→leb (min a.abscissa b.abscissa) x l) (le→leb x (max a.abscissa b.abscissa) r)

  -- what a segment does not span lies on one side of both points
  pub spans_not : (x : ℕ) → T (not (spans a b x)) → (x < min a.abscissa b.abscissa) ⊎ (max a.abscissa b.abscissa < x)
  spans_not x t = go (leb (min a.abscissa b.abscissa) x) refl (leb x (max a.abscissa b.abscissa)) refl
    where
      go : (c : Bool) → leb (min a.abscissa b.abscissa) x ≡ c → (d : Bool) → leb x (max a.abscissa b.abscissa) ≡ d →
          (x < min a.abscissa b.abscissa) ⊎ (max a.abscissa b.abscissa < x)
      go false c d e = inl (leb-false (min a.abscissa b.abscissa) x c)
      go true c false e = inr (leb-false x (max a.abscissa b.abscissa) e)
      go true c true e = absurd (T_not (spans a b x) t (bounds_spans x (leb-true _ _ c) (leb-true _ _ e)))

  -- a segment starts at its first point
  pub interpolated_first : interpolated a b a.abscissa ≡ a.ordinate
  unfolding interpolated
  interpolated_first =
      let e : distance a.abscissa a.abscissa ≡ 0 = omega arith in
      rw (e, mul-zero, zero-div) (omega arith)

  -- a segment ends at its second point
  pub interpolated_last : 0 < distance a.abscissa b.abscissa → a.ordinate ≤ b.ordinate → interpolated a b b.abscissa ≡ b.ordinate
  unfolding interpolated
  interpolated_last h k =
      let i = interpolates (b.ordinate - a.ordinate) (distance a.abscissa b.abscissa) h in
      omega (arith, i.finish)

  -- a segment's ordinates lie between those of its points
  pub interpolated-between : 0 < distance a.abscissa b.abscissa → a.ordinate ≤ b.ordinate → (x : ℕ) → T (spans a b x) →
      (a.ordinate ≤ interpolated a b x) × (interpolated a b x ≤ b.ordinate)
  unfolding interpolated
  interpolated-between h k x t =
      let i = interpolates (b.ordinate - a.ordinate) (distance a.abscissa b.abscissa) h in
      let s = i.between (distance a.abscissa x) (omega (arith, spans_bounds x t)) in
      (omega arith, omega arith)

-- ---- points that go one way

module _ {a b z : Point} (o : Onward a b z) (x : ℕ) where
  -- the whole way spans what its first segment spans
  from_first : T (spans a b x) → T (spans a z x)
  from_first s = bounds_spans a z x (omega (arith, spans_bounds a b x s)) (omega (arith, spans_bounds a b x s))

  -- the whole way spans what the way after its first segment spans
  from_rest : T (spans b z x) → T (spans a z x)
  from_rest s = bounds_spans a z x (omega (arith, spans_bounds b z x s)) (omega (arith, spans_bounds b z x s))

  -- what the whole way spans and its first segment does not, the way after that spans
  to_rest : T (spans a z x) → T (not (spans a b x)) → T (spans b z x)
  to_rest s outside =
      let h = spans_bounds a z x s in
      ⊎_elim (λ k. bounds_spans b z x (omega arith) (omega arith)) (λ k. bounds_spans b z x (omega arith) (omega arith))
      (spans_not a b x outside)

  -- the first segment and the way after it meet in b
  meet : T (spans a b x) → T (spans b z x) → x ≡ b.abscissa
  meet s t =
      let (l, m) = spans_bounds a b x s in
      let (l', m') = spans_bounds b z x t in
      le_antisymm (no_further a.abscissa b.abscissa z.abscissa o.least m m') (no_nearer a.abscissa b.abscissa z.abscissa o.most l l')
    where
      no_further : (a b z : ℕ) → min a z ≤ b → x ≤ max a b → x ≤ max b z → x ≤ b
      no_further a b z h k l = omega arith

      no_nearer : (a b z : ℕ) → b ≤ max a z → min a b ≤ x → min b z ≤ x → b ≤ x
      no_nearer a b z h k l = omega arith

-- no ordinate is above the last
pub below_last : (a : Point) (rest : List Point) → OneWay (a ∷ rest) → a.ordinate ≤ (last_or a rest).ordinate
unfolding OneWay
below_last a [] w = le_refl a.ordinate
below_last a (b ∷ rest) w = le_trans w.0.higher (below_last b rest w.1)

-- ---- readings

-- what a curve gives at its first point
pub at_first : (a b : Point) (rest : List Point) → curve_at (a ∷ b ∷ rest) a.abscissa ≡ Some a.ordinate
at_first a b rest =
    on_segment a b rest a.abscissa (λ v. v ≡ Some a.ordinate)
    (λ _. ap Some (interpolated_first a b))
    (λ outside. absurd (T_not (spans a b a.abscissa) outside (bounds_spans a b a.abscissa (omega arith) (omega arith))))

-- x and a value lie between two points
pub record Inside (a z : Point) (x value : ℕ) : Type 0 where
  pub spanned : T (spans a z x)
  pub least : a.ordinate ≤ value
  pub most : value ≤ z.ordinate

-- what the first segment gives lies between the first and the last point
in_first : (a b : Point) (rest : List Point) (x : ℕ) → OneWay (a ∷ b ∷ rest) → T (spans a b x) →
    Inside a (last_or b rest) x (interpolated a b x)
unfolding OneWay
in_first a b rest x w s =
    let (l, m) = interpolated-between a b w.0.apart w.0.higher x s in
    record { spanned = from_first w.0 x s; least = l; most = le_trans m (below_last b rest w.1) }

-- what lies between the second and the last point lies between the first and the last
in_rest : {a b z : Point} {x value : ℕ} → Onward a b z → Inside b z x value → Inside a z x value
in_rest {x} o i = record { spanned = from_rest o x i.spanned; least = le_trans o.higher i.least; most = i.most }

-- what is on a curve lies between its first and its last point
pub on_inside : (a b : Point) (rest : List Point) (x : ℕ) → OneWay (a ∷ b ∷ rest) → T (is_on (curve_at (a ∷ b ∷ rest) x)) →
    Inside a (last_or b rest) x (value_of (curve_at (a ∷ b ∷ rest) x))
unfolding curve_at is_on value_of OneWay last_or
on_inside a b [] x w t =
    on_segment a b [] x (λ v. T (is_on v) → Inside a b x (value_of v)) (λ s _. in_first a b [] x w s) (λ _ u. absurd u) t
on_inside a b (c ∷ rest) x w t =
    let ih = on_inside b c rest x w.1 in
    on_segment a b (c ∷ rest) x (λ v. T (is_on v) → Inside a (last_or c rest) x (value_of v))
    (λ s _. in_first a b (c ∷ rest) x w s)
    (λ _ u. in_rest w.0 (ih u))
    t

-- all that lies between the first and the last point is on the curve
pub between_on : (a b : Point) (rest : List Point) (x : ℕ) → OneWay (a ∷ b ∷ rest) → T (spans a (last_or b rest) x) →
    T (is_on (curve_at (a ∷ b ∷ rest) x))
unfolding curve_at is_on OneWay last_or
between_on a b [] x w t =
    on_segment a b [] x (λ v. T (is_on v)) (λ _. tt) (λ outside. absurd (T_not (spans a b x) outside t))
between_on a b (c ∷ rest) x w t =
    let ih = between_on b c rest x w.1 in
    on_segment a b (c ∷ rest) x (λ v. T (is_on v)) (λ _. tt) (λ outside. ih (to_rest w.0 x t outside))

-- what the first segment spans the rest of the curve, where it gives anything, gives alike
pub agree : (a b c : Point) (rest : List Point) (x : ℕ) → OneWay (a ∷ b ∷ c ∷ rest) → T (spans a b x) →
    T (is_on (curve_at (b ∷ c ∷ rest) x)) → curve_at (b ∷ c ∷ rest) x ≡ Some (interpolated a b x)
unfolding OneWay last_or
agree a b c rest x w s t =
    let e : x ≡ b.abscissa = meet w.0 x s (on_inside b c rest x w.1 t).spanned in
    rw e (at_first b c rest ∙ ap Some (sym (interpolated_last a b w.0.apart w.0.higher)))

-- a curve reads what any segment of it that spans x gives
pub read_by_segment : (l : List Point) (i : ℕ) (d : Point) (x : ℕ) → OneWay l → suc i < length l →
    T (spans (get_or l i d) (get_or l (suc i) d) x) → curve_at l x ≡ Some (interpolated (get_or l i d) (get_or l (suc i) d) x)
unfolding OneWay is_on
read_by_segment [] i d x w h s = absurd (omega arith)
read_by_segment (a ∷ []) i d x w h s = absurd (omega arith)
read_by_segment (a ∷ b ∷ rest) zero d x w h s =
    on_segment a b rest x (λ v. v ≡ Some (interpolated a b x)) (λ _. refl) (λ outside. absurd (T_not (spans a b x) outside s))
read_by_segment (a ∷ b ∷ []) (suc i) d x w h s = absurd (omega arith)
read_by_segment (a ∷ b ∷ c ∷ rest) (suc i) d x w h s =
    let ih = read_by_segment (b ∷ c ∷ rest) i d x w.1 (omega arith) s in
    let on : T (is_on (curve_at (b ∷ c ∷ rest) x)) = rw ih tt in
    on_segment a b (c ∷ rest) x (λ v. v ≡ Some (interpolated (get_or (b ∷ c ∷ rest) i d) (get_or (c ∷ rest) i d) x))
    (λ s'. sym (agree a b c rest x w s' on) ∙ ih)
    (λ _. ih)

-- where no segment spans x, x is off the curve
pub read_by_none : (l : List Point) (d : Point) (x : ℕ) →
    ((i : ℕ) → suc i < length l → T (not (spans (get_or l i d) (get_or l (suc i) d) x))) → curve_at l x ≡ None
unfolding curve_at
read_by_none [] d x h = refl
read_by_none (a ∷ []) d x h = refl
read_by_none (a ∷ b ∷ rest) d x h =
    let ih = read_by_none (b ∷ rest) d x (λ i k. h (suc i) (omega arith)) in
    on_segment a b rest x (λ v. v ≡ None) (λ s. absurd (T_not (spans a b x) (h 0 (omega arith)) s)) (λ _. ih)

-- ---- which curves go one way

module _ (test : Point → Point → Bool) (Before : Point → Point → Type 0) (itself : (a : Point) → Before a a)
    (onward : (a b z : Point) → T (test a b) → Before b z → Before a z × Onward a b z) where
  -- a list goes one way if each of its points goes onward to all that the next is before
  pub one_way : (a : Point) (rest : List Point) → T (neighbours test (a ∷ rest)) → Before a (last_or a rest) × OneWay (a ∷ rest)
  unfolding neighbours last_or OneWay
  one_way a [] t = (itself a, tt)
  one_way a (b ∷ rest) t =
      let (s, u) = both (test a b) (neighbours test (b ∷ rest)) t in
      let (before, w) = one_way b rest u in
      let (further, o) = onward a b (last_or b rest) s before in
      (further, (o, w))
