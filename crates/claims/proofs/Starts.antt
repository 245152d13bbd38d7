-- The water of a start: a height for each element, and all of it on the curve.
use Prim.Native.Nat.{ℕ, zero, suc, ◌+◌}
use native.Mathlib.Omega.{arith}
use lib.Dec.{T, eqb, leb}
use lib.IntN.{pos}
use lib.ListN.{length}
use mathlib.Core.Bool.{Bool, true, false, cond}
use mathlib.Core.List.{List, [], ◌∷◌, map}
use Rattle.std.specs.Prelude.{Option, None, Some}
use mathlib.Core.Path.{◌≡◌, refl, ap, subst}
use Rattle.claims.proofs.Causes.{none_some}
use Rattle.numbers.specs.Lists.{least}
use Rattle.numbers.proofs.Searches.{passed, joined}
use Rattle.rules.specs.Layer.{Skeleton, effective_stress}
use Rattle.quantities.specs.Quantities.{water_limits}
use Rattle.numbers.specs.Lists.{prepended}
use Rattle.rules.specs.Job.{Description}
use Rattle.rules.specs.Opening.{started_with, not_started, description_water, start_steady, started}
use Rattle.rules.specs.Start.{at_most, resting_water, last_stress, resting_under, resting_from, start_water}
use Rattle.rules.specs.Step.{on_curve, all_on_curve}
use Rattle.rules.proofs.Resting.{at_most_parts}
use Rattle.rules.specs.declared.answers.Refusal.TheVariants.{StartOffCurve, StartNotSteady}

-- the least that passes a test passes it
least_passes : (test : ℕ → Bool) (count n found : ℕ) → least count n test ≡ Some found → T (test found)
unfolding least
least_passes test zero n found e = absurd (none_some found e)
least_passes test (suc count) n found e = go (test n) refl e (least_passes test count (suc n) found)
  where
    go : (c : Bool) → test n ≡ c → elim c as (λ _. Option ℕ) [ true ↦ Some n | false ↦ least count (suc n) test ] ≡ Some found →
        (least count (suc n) test ≡ Some found → T (test found)) → T (test found)
    go true p e later = let same : n ≡ found = cc in subst (λ (m : ℕ). T (test m)) same (passed p)
    go false p e later = later e

-- a height for each element, and all on the curve
pub record Starts (soil : Skeleton) (Ss water : List ℕ) : Type 0 where
  pub size : length water ≡ length Ss
  pub is_on_curve : T (all_on_curve soil Ss (map pos water))

-- resting water is on the curve
resting_on : (soil : Skeleton) (S stress W : ℕ) → resting_water soil S stress ≡ Some W → T (on_curve soil S (pos W))
unfolding resting_water on_curve
resting_on soil S stress W e =
    (at_most_parts (effective_stress soil S W) stress
    (least_passes (λ U. at_most (effective_stress soil S U) stress) (suc water_limits.most) 0 W e)).0

module _ (soil : Skeleton) (load : ℕ) where
  -- so is that of an element under load + B
  under_on : (B S W : ℕ) → resting_under soil load B S ≡ Some W → T (on_curve soil S (pos W))
  unfolding resting_under
  under_on B S W e = go (leb (load + B) (last_stress soil.compressibility)) e
    where
      go : (c : Bool) → elim c as (λ _. Option ℕ) [ true ↦ resting_water soil S (load + B) | false ↦ None ] ≡ Some W → T (on_curve soil S (pos W))
      go true e = resting_on soil S (load + B) W e
      go false e = absurd (none_some W e)

  -- water at rest is
  resting_starts : (Bs Ss water : List ℕ) → length Bs ≡ length Ss → resting_from soil load Bs Ss ≡ Some water → Starts soil Ss water
  unfolding resting_from all_on_curve prepended
  resting_starts [] [] water n e = let same : [] ≡ water = cc in subst (Starts soil []) same (record { size = refl; is_on_curve = tt })
  resting_starts [] (S ∷ Ss) water n e = absurd (omega arith)
  resting_starts (B ∷ Bs) [] water n e = absurd (omega arith)
  resting_starts (B ∷ Bs) (S ∷ Ss) water n e =
      each (resting_under soil load B S) (resting_from soil load Bs Ss) refl refl e (λ more. resting_starts Bs Ss more (omega arith))
    where
      Later : Type 0
      Later = (more : List ℕ) → resting_from soil load Bs Ss ≡ Some more → Starts soil Ss more

      each : (o : Option ℕ) (rest : Option (List ℕ)) → resting_under soil load B S ≡ o → resting_from soil load Bs Ss ≡ rest →
          prepended o rest ≡ Some water → Later → Starts soil (S ∷ Ss) water
      each None rest p q e later = absurd (none_some water e)
      each (Some W) None p q e later = absurd (none_some water e)
      each (Some W) (Some more) p q e later =
          let same : W ∷ more ≡ water = cc in
          let rest = later more q in
          subst (Starts soil (S ∷ Ss)) same (record {
            size = ap suc rest.size;
            is_on_curve =
                joined (on_curve soil S (pos W)) (all_on_curve soil Ss (map pos more)) (under_on B S W p) rest.is_on_curve;
          })

  -- the water of any start is
  pub water_starts : (Bs Ss : List ℕ) (may_rest : Bool) (start : ℕ) (given water : List ℕ) → length Bs ≡ length Ss → length given ≡ length Ss →
      start_water soil Bs Ss may_rest start given load ≡ Some water → Starts soil Ss water
  unfolding start_water
  water_starts Bs Ss may_rest start given water many n e = either (eqb start 1) may_rest e
    where
      on : (c : Bool) → all_on_curve soil Ss (map pos given) ≡ c → cond c (Some given) None ≡ Some water → Starts soil Ss water
      on true p e = let same : given ≡ water = cc in subst (Starts soil Ss) same (record { size = n; is_on_curve = passed p })
      on false p e = absurd (none_some water e)

      either : (rest may_rest : Bool) →
          cond rest (cond may_rest (resting_from soil load Bs Ss) None) (cond (all_on_curve soil Ss (map pos given)) (Some given) None) ≡ Some water →
          Starts soil Ss water
      either false may_rest e = on (all_on_curve soil Ss (map pos given)) refl e
      either true true e = resting_starts Bs Ss water many e
      either true false e = absurd (none_some water e)

-- ---- what a description's start gives

module _ (d : Description) where
  -- 9
  pub off_started : description_water d ≡ None → started d ≡ not_started StartOffCurve
  unfolding started
  off_started e = rw (e, started)

  module _ (water : List ℕ) (e : description_water d ≡ Some water) where
    -- 20
    pub unsteady_started : start_steady d water ≡ false → started d ≡ not_started StartNotSteady
    unfolding started
    unsteady_started s = rw (e, s, started)

    -- water
    pub steady-started : start_steady d water ≡ true → started d ≡ started_with water
    unfolding started
    steady-started s = rw (e, s, started)
