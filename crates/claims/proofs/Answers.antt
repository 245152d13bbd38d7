-- No call on the tally is refused for its record: it knows no cause 11.
use Prim.Native.Nat.{ℕ}
use native.Mathlib.Omega.{arith}
use lib.IntN.{pos}
use mathlib.Core.List.{List, [], ◌∷◌}
use Rattle.std.specs.Prelude.{None, Some}
use mathlib.Core.Path.{◌≡◌}
use Rattle.claims.proofs.Causes.{load_trials, step_trials, run_trials, cause_tried, by_first}
use Rattle.laws.specs.Every.{Every}
use Rattle.rules.specs.Layer.{Site, State}
use Rattle.rules.specs.Load.{load_refusal}
use Rattle.rules.specs.Outcome.{Outcome, refused, ran, outcome}
use Rattle.rules.specs.Refusals.{Trial, first_cause}
use Rattle.rules.specs.Run.{load_set, step_taken, run_refusal}
use Rattle.rules.specs.Step.{step_refusal}
use Rattle.rules.specs.Tally.{Tally, tally_site, tallied, course}
use Rattle.rules.specs.declared.answers.Answer.{Answer}
use Rattle.rules.specs.declared.answers.Answer.TheVariants.{Done, Refused}
use Rattle.rules.specs.declared.answers.Call.{Call}
use Rattle.rules.specs.declared.answers.Call.TheVariants.{Load, Step, Run}
use Rattle.rules.specs.declared.answers.Refusal.TheVariants.{NoLayer}

-- an answer is not that of a record that is no layer
abbrev pub OnLayer : Answer → Type 0
OnLayer answer = answer ≡ Refused NoLayer → ⊥

-- the two ends of an equation of different constructors
apart : ◌≡◌ {A = ℕ} 0 1 → ⊥
apart z = omega arith

-- a refusal for a cause other than 11, or an answer that is none of it
by_cause : (trials : List Trial) (o : Outcome) → Every (λ trial. trial.cause ≡ NoLayer → ⊥) trials → OnLayer o.answer →
    OnLayer (elim (first_cause trials) as (λ _. Outcome) [ Some cause ↦ refused cause | None ↦ o ]).answer
unfolding refused
by_cause trials o other done =
    by_first (λ o. OnLayer o.answer) trials o (λ cause e p. cause_tried (λ c. c ≡ NoLayer → ⊥) trials cause other e (cc)) (λ _. done)

call_on_layer : (site : Site) (s : State) (call : Call) → OnLayer (outcome site s call).answer
unfolding outcome ran load_refusal step_refusal run_refusal Every
call_on_layer site s (Load load) =
    by_cause (load_trials load) (record { answer = Done; events = load_set (pos load) ∷ [] }) ((λ e. apart (cc)), tt) (λ e. apart (cc))
call_on_layer site s (Step t) =
    by_cause (step_trials site s t) (record { answer = Done; events = step_taken t ∷ [] })
    ((λ e. apart (cc)), ((λ e. apart (cc)), ((λ e. apart (cc)), tt))) (λ e. apart (cc))
call_on_layer site s (Run end budget) =
    by_cause (run_trials s end budget) (ran site end budget s) ((λ e. apart (cc)), tt) (λ e. apart (cc))

pub answers_on_layer : (site : Site) (calls : List Call) (y : Tally) → Every OnLayer (course site calls y).answers
unfolding course Every
answers_on_layer site [] y = tt
answers_on_layer site (call ∷ rest) y =
    let own = tally_site site y in
    (call_on_layer own y.state call, answers_on_layer site rest (tallied site (outcome own y.state call).events y))
