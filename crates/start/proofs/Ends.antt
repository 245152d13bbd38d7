-- The first and the last point of a curve that two arrays hold.
use Prim.Native.Nat.{ℕ, ◌-◌, ◌<◌}
use native.Mathlib.Omega.{arith}
use lib.ListN.{length, get_or}
use mathlib.Core.List.{List, [], ◌∷◌}
use mathlib.Core.Path.{◌≡◌, refl, ap, ◌∙◌}
use Rattle.laws.proofs.Index.{last_at, points-length, points_at}
use Rattle.laws.proofs.Rising.{last_abscissa}
use Rattle.numbers.specs.Lists.{last_or}
use Rattle.rules.specs.Curve.{Point, point, points}
use Rattle.rules.specs.Start.{last_stress}
use Rattle.rules.proofs.Falling.{first_abscissa}
use Rattle.rules.proofs.Points.{at, from_point}

-- the last entry is the one at the last place
last_entry : {A : Type 0} (l : List A) (d : A) → 0 < length l → last_or d l ≡ get_or l (length l - 1) d
unfolding last_or
last_entry [] d h = absurd (omega arith)
last_entry (a ∷ rest) d h = let e : length (a ∷ rest) - 1 ≡ length rest = omega arith in rw e (last_at a rest d)

-- its abscissa
last_abscissa_lem : (l : List Point) → last_abscissa l ≡ (last_or (point 0 0) l).abscissa
unfolding last_or
last_abscissa_lem [] = refl
last_abscissa_lem (a ∷ rest) = refl

module _ (m : ℕ) (void stress : List ℕ) (some : 0 < m) where
  -- the point at the last place
  last_point : last_or (point 0 0) (points m void stress) ≡ at m void stress (m - 1)
  last_point =
      let many = points-length m void stress in
      last_entry (points m void stress) (point 0 0) (rw many some) ∙
      rw many (points_at m void stress (m - 1) (point 0 0) (omega arith))

  -- the greatest void ratio, the least, and the last stress of a falling curve
  pub first_void : first_abscissa (points m void stress) ≡ get_or void 0 0
  first_void = ap first_abscissa (from_point m void stress 0 some)

  pub last_void : last_abscissa (points m void stress) ≡ get_or void (m - 1) 0
  last_void = last_abscissa_lem (points m void stress) ∙ ap (λ (p : Point). p.abscissa) last_point

  pub last_stress_lem : last_stress (points m void stress) ≡ get_or stress (m - 1) 0
  unfolding last_stress
  last_stress_lem = ap (λ (p : Point). p.ordinate) last_point
