-- What is on a sound curve keeps the limits of the curve's points.
use Prim.Native.Nat.{ℕ, ◌≤◌}
use native.Mathlib.Omega.{arith}
use lib.Dec.{T}
use mathlib.Core.Bool.{Bool, ◌&&◌}
use mathlib.Core.List.{List, [], ◌∷◌}
use Rattle.numbers.specs.Lists.{all, last_or}
use Rattle.numbers.proofs.Searches.{both}
use Rattle.quantities.specs.Quantities.{within, void_limits, stress_limits, conductivity_limits}
use Rattle.quantities.specs.declared.quantity.Limits.{Limits}
use Rattle.rules.specs.Curve.{Point, curve_at, is_on, value_of, falling, compressibility_sound, rising, covers, conductivity_sound}
use Rattle.quantities.proofs.Limits.{within_parts}
use Rattle.laws.specs.Segment.{OneWay}
use Rattle.laws.proofs.Segment.{on_inside, spans_bounds}
use Rattle.laws.proofs.Rising.{no_gap, rising_way, falling_way}

-- what all pass, the last passes
pub all_last : {A : Type 0} (test : A → Bool) (a : A) (rest : List A) → T (all test (a ∷ rest)) → T (test (last_or a rest))
unfolding all last_or
all_last test a [] t = (both (test a) (all test []) t).0
all_last test a (b ∷ rest) t = all_last test b rest (both (test a) (all test (b ∷ rest)) t).1

-- an abscissa and a value keep two limits
pub record Ranged (X Y : Limits) (x value : ℕ) : Type 0 where
  pub least : X.least ≤ x
  pub most : x ≤ X.most
  pub lowest : Y.least ≤ value
  pub highest : value ≤ Y.most

module _ (X Y : Limits) where
  -- a point keeps two limits, as the tests of a curve ask
  abbrev keeps : Point → Bool
  keeps p = within X p.abscissa && within Y p.ordinate

  -- what such a test says
  point_ranged : (p : Point) → T (keeps p) → Ranged X Y p.abscissa p.ordinate
  point_ranged p t =
      let (x, y) = both (within X p.abscissa) (within Y p.ordinate) t in
      let (least, most) = within_parts X p.abscissa x in
      let (lowest, highest) = within_parts Y p.ordinate y in
      record { least = least; most = most; lowest = lowest; highest = highest }

  -- what is on a curve that goes one way keeps the limits of its points
  pub on_ranged : (l : List Point) (x : ℕ) → OneWay l → T (all keeps l) → T (is_on (curve_at l x)) →
      Ranged X Y x (value_of (curve_at l x))
  unfolding curve_at is_on all last_or
  on_ranged [] x w k t = absurd t
  on_ranged (a ∷ []) x w k t = absurd t
  on_ranged (a ∷ b ∷ rest) x w k t =
      let z = last_or b rest in
      let i = on_inside a b rest x w t in
      let s = spans_bounds a z x i.spanned in
      let first = point_ranged a (both (keeps a) (all keeps (b ∷ rest)) k).0 in
      let last = point_ranged z (all_last keeps a (b ∷ rest) k) in
      omega arith

-- what is on a sound compressibility curve keeps the limits of void ratio and stress
pub compressibility_ranged : (l : List Point) (x : ℕ) → T (compressibility_sound l) → T (is_on (curve_at l x)) →
    Ranged void_limits stress_limits x (value_of (curve_at l x))
unfolding compressibility_sound
compressibility_ranged l x sound on =
    let (kept, f) = both (all (keeps void_limits stress_limits) l) (falling l) sound in
    on_ranged void_limits stress_limits l x (falling_way l f).1 kept on

-- what is on a sound conductivity curve keeps the limits of void ratio and conductivity
pub conductivity_ranged : (l first : List Point) (x : ℕ) → T (conductivity_sound l first) → T (is_on (curve_at l x)) →
    Ranged void_limits conductivity_limits x (value_of (curve_at l x))
unfolding conductivity_sound
conductivity_ranged l first x sound on =
    let (both-kept, c) = both (all (keeps void_limits conductivity_limits) l && rising l) (covers l first) sound in
    let (kept, r) = both (all (keeps void_limits conductivity_limits) l) (rising l) both-kept in
    on_ranged void_limits conductivity_limits l x (rising_way l r).1 kept on

-- what is on the compressibility curve is on the conductivity curve that covers it
pub covered : (l first : List Point) (x : ℕ) → T (rising l) → T (covers l first) → T (falling first) → T (is_on (curve_at first x)) →
    T (is_on (curve_at l x))
unfolding covers curve_at is_on all last_or
covered l [] x r c f t = absurd t
covered l (a ∷ []) x r c f t = absurd t
covered l (a ∷ b ∷ rest) x r c f t =
    let on : Point → Bool = λ p. is_on (curve_at l p.abscissa) in
    let z = last_or b rest in
    let s = spans_bounds a z x (on_inside a b rest x (falling_way (a ∷ b ∷ rest) f).1 t).spanned in
    let first_on = (both (on a) (all on (b ∷ rest)) c).0 in
    no_gap l a.abscissa z.abscissa x (rising_way l r).1 first_on (all_last on a (b ∷ rest) c) s.0 s.1

-- so what is on a sound compressibility curve is on the sound conductivity curve beside it
pub conducts : (l first : List Point) (x : ℕ) → T (compressibility_sound first) → T (conductivity_sound l first) →
    T (is_on (curve_at first x)) → T (is_on (curve_at l x))
unfolding compressibility_sound conductivity_sound
conducts l first x sound sound' on =
    let (kept, c) = both (all (keeps void_limits conductivity_limits) l && rising l) (covers l first) sound' in
    let r = (both (all (keeps void_limits conductivity_limits) l) (rising l) kept).1 in
    covered l first x r c (both (all (keeps void_limits stress_limits) first) (falling first) sound).1 on
