-- The first cause that holds, among those of one list and then of another.
use Prim.Native.Nat.{ℕ}
use native.Mathlib.Omega.{arith}
use mathlib.Core.Bool.{Bool, true, false}
use mathlib.Core.List.{List, [], ◌∷◌, ◌++◌}
use Rattle.std.specs.Prelude.{Option, None, Some}
use mathlib.Core.Path.{◌≡◌, refl, sym}
use Rattle.rules.specs.Refusals.{Trial, first_cause}
use Rattle.rules.specs.declared.answers.Refusal.{Refusal}

pub none_some : (cause : Refusal) → None ≡ Some cause → ⊥
none_some cause e = let z : ◌≡◌ {A = ℕ} 0 1 = cc in omega arith

-- the first of the earlier list is the first of both
pub first_earlier : (earlier later : List Trial) (cause : Refusal) → first_cause earlier ≡ Some cause →
    first_cause (earlier ++ later) ≡ Some cause
unfolding first_cause
first_earlier [] later cause e = absurd (none_some cause e)
first_earlier (trial ∷ rest) later cause e = go trial.holds e (first_earlier rest later cause)
  where
    go : (holds : Bool) → elim holds [ true ↦ Some trial.cause | false ↦ first_cause rest ] ≡ Some cause →
        (first_cause rest ≡ Some cause → first_cause (rest ++ later) ≡ Some cause) →
        elim holds [ true ↦ Some trial.cause | false ↦ first_cause (rest ++ later) ] ≡ Some cause
    go true e onward = e
    go false e onward = onward e

-- where none of the earlier list holds, the first of both is that of the later
pub first_later : (earlier later : List Trial) → first_cause earlier ≡ None → first_cause (earlier ++ later) ≡ first_cause later
unfolding first_cause
first_later [] later e = refl
first_later (trial ∷ rest) later e = go trial.holds e (first_later rest later)
  where
    go : (holds : Bool) → ◌≡◌ {A = Option Refusal} (elim holds [ true ↦ Some trial.cause | false ↦ first_cause rest ]) None →
        (first_cause rest ≡ None → first_cause (rest ++ later) ≡ first_cause later) →
        elim holds [ true ↦ Some trial.cause | false ↦ first_cause (rest ++ later) ] ≡ first_cause later
    go true e onward = absurd (none_some trial.cause (sym e))
    go false e onward = onward e
