-- Along a falling curve the value falls by at most the curve's steepness for each unit of abscissa, across points too.
use Prim.Native.Nat.{ℕ, ◌+◌, ◌-◌, ◌*◌, ◌≤◌, ◌<◌, max}
use native.Mathlib.Nat.{le_trans, mul-le-mul_right, mul-add, le_of_lt}
use native.Mathlib.Omega.{arith}
use lib.Dec.{T, T_not}
use lib.ListN.{length}
use mathlib.Core.List.{List, [], ◌∷◌}
use mathlib.Core.Path.{◌≡◌}
use Rattle.numbers.specs.Rounding.{ceil}
use Rattle.numbers.specs.Interpolation.{distance}
use Rattle.numbers.proofs.Division.{ceil_pos}
use Rattle.numbers.proofs.Shares.{interpolates}
use Rattle.rules.specs.Curve.{Point, spans, interpolated, curve_at, is_on, value_of, falling, curve_steepness}
use Rattle.std.specs.Prelude.{Some}
use Rattle.rules.proofs.Falling.{Falls, on_segment, falling_parts, spans-within, within-spans, on_from_first}
use Rattle.laws.proofs.Segment.{at_first, interpolated_last}

-- how far apart two numbers lie, where their order is known
apart : (a b : ℕ) → b ≤ a → distance a b ≡ a - b
apart a b h = omega arith

-- the ceil of a segment's rise by its fall
abbrev slope_of : (a b : Point) → ℕ
slope_of a b = ceil (b.ordinate - a.ordinate) (a.abscissa - b.abscissa)

-- along one segment the value falls by at most the segment's slope for each unit
pub segment_slope : (a b : Point) → Falls a b → (x y : ℕ) → x ≤ y → y ≤ a.abscissa →
    interpolated a b x ≤ interpolated a b y + slope_of a b * (y - x)
unfolding interpolated
segment_slope a b f x y h k =
    let i = interpolates (b.ordinate - a.ordinate) (a.abscissa - b.abscissa) (omega arith) in
    let further : a.abscissa - x ≡ (a.abscissa - y) + (y - x) = omega arith in
    rw (apart a.abscissa b.abscissa (le_of_lt f.left), apart a.abscissa x (le_trans h k), apart a.abscissa y k, further)
    (omega (arith, i.slope (a.abscissa - y) (y - x)))

-- what falls by at most c for each unit falls by at most any greater g
steeper : (c g d v w : ℕ) → c ≤ g → v ≤ w + c * d → v ≤ w + g * d
steeper c g d v w h k = omega (arith, mul-le-mul_right d h)

-- a fall from beyond the second point, at most g for each unit up to it, and on along the segment
across : (a b : Point) → Falls a b → (g x y value : ℕ) → x ≤ b.abscissa → b.abscissa ≤ y → y ≤ a.abscissa →
    value ≤ b.ordinate + g * (b.abscissa - x) → value ≤ interpolated a b y + max (slope_of a b) g * (y - x)
across a b f g x y value h k l m =
    let c = slope_of a b in
    let way : y - x ≡ (y - b.abscissa) + (b.abscissa - x) = omega arith in
    let s = segment_slope a b f b.abscissa y k l in
    let e = interpolated_last a b (rw (apart a.abscissa b.abscissa (le_of_lt f.left)) (omega arith)) (le_of_lt f.higher) in
    let first : c * (y - b.abscissa) ≤ max c g * (y - b.abscissa) = mul-le-mul_right (y - b.abscissa) (omega arith) in
    let rest : g * (b.abscissa - x) ≤ max c g * (b.abscissa - x) = mul-le-mul_right (b.abscissa - x) (omega arith) in
    rw (way, mul-add (max c g) (y - b.abscissa) (b.abscissa - x)) (omega arith)

-- where anything is on a curve, its first point is
first_on : (b : Point) (rest : List Point) (x : ℕ) → T (is_on (curve_at (b ∷ rest) x)) → curve_at (b ∷ rest) b.abscissa ≡ Some b.ordinate
unfolding curve_at is_on
first_on b [] x t = absurd t
first_on b (c ∷ rest) x t = at_first b c rest

-- along the whole curve the value falls by at most the steepness for each unit
pub curve_slope : (l : List Point) (x y : ℕ) → T (falling l) → x ≤ y → T (is_on (curve_at l x)) → T (is_on (curve_at l y)) →
    value_of (curve_at l x) ≤ value_of (curve_at l y) + curve_steepness l * (y - x)
unfolding curve_at is_on value_of curve_steepness
curve_slope [] x y f h t u = absurd t
curve_slope (a ∷ []) x y f h t u = absurd t
curve_slope (a ∷ b ∷ rest) x y f h t u =
    let (s, g) = falling_parts a b rest f in
    let C = slope_of a b in
    let G = curve_steepness (b ∷ rest) in
    let far = curve_slope (b ∷ rest) x y g h in
    let near = curve_slope (b ∷ rest) x b.abscissa g in
    let right = (on_from_first (a ∷ b ∷ rest) y f u).0 in
    on_segment a b rest x (λ v. T (is_on v) → value_of v ≤ value_of (curve_at (a ∷ b ∷ rest) y) + curve_steepness (a ∷ b ∷ rest) * (y - x))
    (λ sx _.
    on_segment a b rest y (λ w. interpolated a b x ≤ value_of w + curve_steepness (a ∷ b ∷ rest) * (y - x))
    (λ _. steeper C (max C G) (y - x) (interpolated a b x) (interpolated a b y) (omega arith) (segment_slope a b s x y h right))
    (λ ny. absurd (T_not (spans a b y) ny (within-spans a b s y (le_trans (spans-within a b s x sx).0 h) right))))
    (λ nx on.
    let left = (on_from_first (b ∷ rest) x g on).0 in
    let e = first_on b rest x on in
    on_segment a b rest y (λ w. T (is_on w) → value_of (curve_at (b ∷ rest) x) ≤ value_of w + curve_steepness (a ∷ b ∷ rest) * (y - x))
    (λ sy _. across a b s G x y (value_of (curve_at (b ∷ rest) x)) left (spans-within a b s y sy).0 right (rw e at (near left on (rw e tt))))
    (λ ny on'. steeper G (max C G) (y - x) (value_of (curve_at (b ∷ rest) x)) (value_of (curve_at (b ∷ rest) y)) (omega arith) (far on on'))
    u)
    t

-- the steepness of a falling curve is not 0
pub steepness_pos : (l : List Point) → T (falling l) → 2 ≤ length l → 0 < curve_steepness l
unfolding curve_steepness
steepness_pos [] f h = absurd (omega arith)
steepness_pos (a ∷ []) f h = absurd (omega arith)
steepness_pos (a ∷ b ∷ rest) f h =
    let (s, g) = falling_parts a b rest f in
    let p : 0 < slope_of a b = ceil_pos (omega arith) (b.ordinate - a.ordinate) (omega arith) in
    omega arith
