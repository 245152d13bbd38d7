-- What a run answers on a layer, by the tests of its limits.
use Prim.Native.Nat.{ℕ}
use lib.Dec.{ltb}
use mathlib.Core.Bool.{Bool, true, false, not, ◌||◌}
use mathlib.Core.List.{[], ◌∷◌}
use Rattle.std.specs.Prelude.{Option, None, Some}
use mathlib.Core.Path.{◌≡◌, refl, ap, ◌∙◌}
use Rattle.lent.proofs.CallLaws.{on_layer, refused_on_layer}
use Rattle.lent.specs.Progress.{refused_with}
use Rattle.rules.specs.Calls.{called, Ending, ended_run}
use Rattle.rules.specs.Outcome.{Outcome, refused, ran, outcome}
use Rattle.quantities.specs.Quantities.{within, clock_limits, budget_limits}
use Rattle.rules.specs.Record.{record_site, record_state, is_layer}
use Rattle.rules.specs.Refusals.{◌if◌, first_cause}
use Rattle.rules.specs.Run.{run_refusal}
use Rattle.rules.specs.declared.answers.Answer.TheVariants.{Ran}
use Rattle.rules.specs.declared.answers.Answered.{Answered}
use Rattle.rules.specs.declared.answers.Call.TheVariants.{Run}
use Rattle.rules.specs.declared.answers.Refusal.{Refusal}
use Rattle.rules.specs.declared.answers.Refusal.TheVariants.{RunOutside}
use Rattle.rules.specs.declared.record.Record.{Record}

-- what a run answers by how it ended
abbrev pub ran_to : Ending → Answered
ran_to e = record { answer = Ran e.stop e.steps; after = e.after }

module _ (r : Record) (end budget : ℕ) (is : is_layer r ≡ true) where
  by_refusal : (cause : Option Refusal) → run_refusal (record_state r) end budget ≡ cause →
      outcome (record_site r) (record_state r) (Run end budget) ≡
      elim cause [ Some cause ↦ refused cause | None ↦ ran (record_site r) end budget (record_state r) ]
  unfolding outcome
  by_refusal cause e =
      ap (λ (c : Option Refusal). elim c as (λ _. Outcome) [ Some x ↦ refused x | None ↦ ran (record_site r) end budget (record_state r) ]) e

  module _ {late timed counted : Bool} (p : ltb end r.layer.progress.clock.0 ≡ late) (q : within clock_limits end ≡ timed)
      (u : within budget_limits budget ≡ counted) where
    by_tests : run_refusal (record_state r) end budget ≡ first_cause ((RunOutside if (late || not timed || not counted)) ∷ [])
    unfolding run_refusal record_state
    by_tests = rw (p, q, u) refl

    pub run_outside : (late || not timed || not counted) ≡ true → called r (Run end budget) ≡ refused_with RunOutside r
    unfolding first_cause
    run_outside e =
        refused_on_layer r (Run end budget) RunOutside is
        (by_refusal (Some RunOutside) (by_tests ∙ ap (λ (b : Bool). first_cause ((RunOutside if b) ∷ [])) e))

    pub run_within : (late || not timed || not counted) ≡ false → called r (Run end budget) ≡ ran_to (ended_run r end budget)
    unfolding first_cause ran ended_run
    run_within e =
        on_layer r (Run end budget) (ran (record_site r) end budget (record_state r)) is
        (by_refusal None (by_tests ∙ ap (λ (b : Bool). first_cause ((RunOutside if b) ∷ [])) e))
