-- The causes tried of each call, and what a call does by the first of them that holds, or by none.
use Prim.Native.Nat.{ℕ, ◌+◌}
use native.Mathlib.Omega.{arith}
use lib.Dec.{T, ltb}
use mathlib.Core.Bool.{Bool, true, false, not, ◌||◌}
use mathlib.Core.List.{List, [], ◌∷◌}
use Rattle.std.specs.Prelude.{Option, None, Some}
use mathlib.Core.Path.{◌≡◌, refl, sym, subst}
use Rattle.laws.specs.Every.{Every}
use Rattle.rules.specs.Layer.{Site, State}
use Rattle.rules.specs.Outcome.{Outcome, refused}
use Rattle.quantities.specs.Quantities.{within, stress_limits, clock_limits, step_limits, budget_limits}
use Rattle.rules.specs.Refusals.{Trial, ◌if◌, first_cause}
use Rattle.rules.specs.Step.{too_long, leaves_curve}
use Rattle.rules.specs.declared.answers.Refusal.{Refusal}
use Rattle.rules.specs.declared.answers.Refusal.TheVariants.{LoadOutside, StepOutside, StepTooLong, StepOffCurve, RunOutside}

-- the causes tried of a load, a step and a run, as their refusals list them
abbrev pub load_trials : (load : ℕ) → List Trial
load_trials load = (LoadOutside if not (within stress_limits load)) ∷ []

abbrev pub step_trials : Site → State → (t : ℕ) → List Trial
step_trials site s t =
    (StepOutside if (not (within step_limits t) || not (within clock_limits (s.clock + t)))) ∷
    (StepTooLong if too_long site s t) ∷
    (StepOffCurve if leaves_curve site s t) ∷ []

abbrev pub run_trials : State → (end budget : ℕ) → List Trial
run_trials s end budget =
    (RunOutside if (ltb end s.clock || not (within clock_limits end) || not (within budget_limits budget))) ∷ []

-- ---- lists of trials

pub none_some : {A : Type 0} (a : A) → None ≡ Some a → ⊥
none_some a e = let z : ◌≡◌ {A = ℕ} 0 1 = cc in omega arith

-- a test that failed to fail passed
pub twice_not : (b : Bool) → T (not (not b)) → T b
twice_not true t = tt
twice_not false t = absurd t

-- where not one of two tests passed, each failed
pub neither : (a b : Bool) → T (not (a || b)) → T (not a) × T (not b)
neither true b t = absurd t
neither false b t = (tt, t)

-- where there is no first cause, none holds
pub none_holds : (trials : List Trial) → first_cause trials ≡ None → Every (λ trial. T (not trial.holds)) trials
unfolding first_cause Every
none_holds [] e = tt
none_holds (trial ∷ rest) e = go trial.holds e (none_holds rest)
  where
    go : (holds : Bool) → ◌≡◌ {A = Option Refusal} (elim holds [ true ↦ Some trial.cause | false ↦ first_cause rest ]) None →
        (first_cause rest ≡ None → Every (λ trial. T (not trial.holds)) rest) →
        T (not holds) × Every (λ trial. T (not trial.holds)) rest
    go true e later = absurd (none_some trial.cause (sym e))
    go false e later = (tt, later e)

-- the first cause is one of those tried
pub cause_tried : (P : Refusal → Type 0) (trials : List Trial) (cause : Refusal) → Every (λ trial. P trial.cause) trials →
    first_cause trials ≡ Some cause → P cause
unfolding first_cause Every
cause_tried P [] cause all e = absurd (none_some cause e)
cause_tried P (trial ∷ rest) cause all e = go trial.holds e (cause_tried P rest cause all.1)
  where
    go : (holds : Bool) → elim holds [ true ↦ Some trial.cause | false ↦ first_cause rest ] ≡ Some cause →
        (first_cause rest ≡ Some cause → P cause) → P cause
    go true e later = let same : trial.cause ≡ cause = cc in subst P same all.0
    go false e later = later e

-- what holds of every refusal for the first cause, and of the outcome where no cause holds
pub by_first : (P : Outcome → Type 0) (trials : List Trial) (o : Outcome) →
    ((cause : Refusal) → first_cause trials ≡ Some cause → P (refused cause)) →
    (Every (λ trial. T (not trial.holds)) trials → P o) →
    P (elim (first_cause trials) [ Some cause ↦ refused cause | None ↦ o ])
by_first P trials o held free = go (first_cause trials) refl
  where
    go : (c : Option Refusal) → first_cause trials ≡ c → P (elim c [ Some cause ↦ refused cause | None ↦ o ])
    go (Some cause) e = held cause e
    go None e = free (none_holds trials e)
