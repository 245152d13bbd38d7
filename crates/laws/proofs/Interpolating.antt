-- What is read of a curve obeys the law of quotient and remainder on its segment: one law for both curves.
use Prim.Native.Nat.{ℕ, suc, ◌+◌, ◌-◌, ◌*◌, ◌<◌}
use native.Mathlib.Omega.{arith}
use lib.Dec.{T}
use lib.IntN.{pos, ◌-ℤ◌}
use mathlib.Core.List.{List, [], ◌∷◌}
use mathlib.Core.Path.{◌≡◌, refl, sym, ap, subst}
use Rattle.laws.specs.Segment.{OneWay, OnSegment, OnSomeSegment}
use Rattle.numbers.proofs.Quotients.{floored}
use Rattle.numbers.proofs.Signed.{signed, sub_parts}
use Rattle.numbers.specs.Interpolation.{distance, share}
use Rattle.std.specs.Prelude.{Some}
use Rattle.rules.proofs.Falling.{on_segment}
use Rattle.rules.specs.Curve.{Point, interpolated, interpolation_remainder, curve_at, is_on, value_of}

-- what is added is what the sum is above the first
added : (a n : ℕ) → pos (a + n) -ℤ pos a ≡ pos n
added a n = omega (signed, sub_parts (pos (a + n)) (pos a))

-- on a segment
pub segment_divides : (a b : Point) (x : ℕ) → 0 < distance a.abscissa b.abscissa → OnSegment a b x (interpolated a b x)
unfolding interpolated interpolation_remainder share
segment_divides a b x apart =
    let part = (b.ordinate - a.ordinate) * distance a.abscissa x in
    let whole = distance a.abscissa b.abscissa in
    record { value = refl; divides = rw (added a.ordinate (share (b.ordinate - a.ordinate) (distance a.abscissa x) whole)) (floored part whole apart).divides }

-- wherever a curve gives a value
pub curve_divides : (curve : List Point) → OneWay curve → (x y : ℕ) → curve_at curve x ≡ Some y → OnSomeSegment curve x y
unfolding OneWay curve_at is_on value_of
curve_divides [] w x y e = absurd (subst (λ v. T (is_on v)) (sym e) tt)
curve_divides (a ∷ []) w x y e = absurd (subst (λ v. T (is_on v)) (sym e) tt)
curve_divides (a ∷ b ∷ rest) w x y e =
    on_segment a b rest x (λ v. v ≡ Some y → OnSomeSegment (a ∷ b ∷ rest) x y)
    (λ _ on. rw (← ap value_of on)
    (record { segment = 0; among = omega arith; on = segment_divides a b x w.0.apart }))
    (λ _ on. later (curve_divides (b ∷ rest) w.1 x y on))
    e
  where
    later : OnSomeSegment (b ∷ rest) x y → OnSomeSegment (a ∷ b ∷ rest) x y
    later s = record { segment = suc s.segment; among = omega (arith, s.among); on = s.on }
