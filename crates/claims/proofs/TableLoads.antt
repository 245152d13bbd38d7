-- Every load of a sound table keeps the limits of a load.
use Prim.Native.Nat.{ℕ, ◌-◌, ◌≤◌}
use native.Mathlib.Omega.{arith}
use lib.Dec.{T, ltb, eqb, ltb→lt}
use lib.IntN.{ℤ, pos}
use mathlib.Core.Bool.{Bool, true, false, ◌&&◌}
use mathlib.Core.List.{List, [], ◌∷◌}
use Rattle.claims.proofs.Accepted.{LoadKept}
use Rattle.numbers.specs.Lists.{all, neighbours}
use Rattle.numbers.proofs.Searches.{both, by_test}
use Rattle.numbers.proofs.Signed.{signed}
use Rattle.rules.specs.Curve.{Point}
use Rattle.rules.specs.Load.{first_point, table_sound, load_at}
use Rattle.quantities.specs.Quantities.{within, stress_limits, clock_limits}
use Rattle.quantities.proofs.Limits.{within_parts}
use Rattle.table.proofs.Laws.{segment_load, segment_stress}

-- the tests of a sound table's points
abbrev later : Point → Point → Bool
later a b = ltb a.abscissa b.abscissa

abbrev limited : Point → Bool
limited p = within clock_limits p.abscissa && within stress_limits p.ordinate

ordinate_most : (p : Point) → T (limited p) → p.ordinate ≤ stress_limits.most
ordinate_most p t =
    (within_parts stress_limits p.ordinate (both (within clock_limits p.abscissa) (within stress_limits p.ordinate) t).1).1

-- its load at a time
table_load : (table : List Point) (now : ℕ) → T (neighbours later table) → T (all limited table) → LoadKept (load_at table now)
unfolding load_at neighbours all
table_load [] now rises kept = (omega signed, omega signed)
table_load (a ∷ []) now rises kept =
    let most = ordinate_most a (both (limited a) (all limited []) kept).0 in (omega signed, omega signed)
table_load (a ∷ b ∷ rest) now rises kept =
    let (here, above) = both (later a b) (neighbours later (b ∷ rest)) rises in
    let (first, others) = both (limited a) (all limited (b ∷ rest)) kept in
    let next = (both (limited b) (all limited rest) others).0 in
    let ih = table_load (b ∷ rest) now above others in
    let up = ltb→lt a.abscissa b.abscissa here in
    by_test (ltb now b.abscissa)
    (λ c. LoadKept (elim c as (λ _. ℤ) [
      | true ↦ segment_load a.ordinate b.ordinate (now - a.abscissa) (b.abscissa - a.abscissa)
      | false ↦ load_at (b ∷ rest) now
    ]))
    (λ before.
    let soon = ltb→lt now b.abscissa before in
    segment_stress a.ordinate b.ordinate (now - a.abscissa) (b.abscissa - a.abscissa) (omega arith) (omega arith)
    stress_limits.most (ordinate_most a first) (ordinate_most b next))
    (λ _. ih)

-- and its first
first_load : (table : List Point) → T (all limited table) → LoadKept (pos (first_point table).ordinate)
unfolding all first_point
first_load [] kept = (omega signed, omega signed)
first_load (a ∷ rest) kept =
    let most = ordinate_most a (both (limited a) (all limited rest) kept).0 in (omega signed, omega signed)

module _ (table : List Point) (t : T (table_sound table)) where
  table_parts : T (neighbours later table) × T (all limited table)
  unfolding table_sound
  table_parts =
      let begins = eqb (first_point table).abscissa 0 in
      let (front, kept) = both (begins && neighbours later table) (all limited table) t in
      ((both begins (neighbours later table) front).1, kept)

  pub sound_load : (now : ℕ) → LoadKept (load_at table now)
  sound_load now = table_load table now table_parts.0 table_parts.1

  pub sound_first : LoadKept (pos (first_point table).ordinate)
  sound_first = first_load table table_parts.1
