-- All events of a call are accepted: its own, or those of a run.
use Prim.Native.Nat.{ℕ, zero, suc, ◌+◌, ◌≤◌}
use native.Mathlib.Omega.{arith}
use lib.Dec.{T, ltb, eqb, nltb→le}
use lib.IntN.{ℤ, pos}
use mathlib.Core.Bool.{Bool, true, false, not, ◌||◌}
use mathlib.Core.List.{[], ◌∷◌}
use mathlib.Core.Path.{◌≡◌, refl, subst}
use Rattle.claims.proofs.Accepted.{StepAccepted, Accepted, AllAccepted}
use Rattle.claims.proofs.Causes.{load_trials, step_trials, run_trials, twice_not, neither, by_first}
use Rattle.claims.proofs.TableLoads.{sound_load}
use Rattle.laws.specs.Every.{Every}
use Rattle.laws.proofs.Longest.{longest-accepted}
use Rattle.numbers.proofs.Searches.{by_test}
use Rattle.numbers.proofs.Signed.{signed}
use Rattle.rules.specs.Layer.{Site, State}
use Rattle.rules.specs.Load.{table_sound, load_at, with_load, load_refusal}
use Rattle.rules.specs.Outcome.{refused, ran, outcome}
use Rattle.quantities.specs.Quantities.{within, stress_limits, clock_limits, step_limits, budget_limits}
use Rattle.quantities.specs.declared.quantity.Limits.{Limits}
use Rattle.rules.specs.Run.{load_set, step_taken, after_event, longest_reach, longest_step}
use Rattle.rules.specs.Run.{Turn, stops, goes, turn, RunOutcome, running, run_refusal}
use Rattle.rules.specs.Step.{stepped, too_long, leaves_curve, step_refusal}
use Rattle.rules.specs.declared.answers.Answer.TheVariants.{Done}
use Rattle.rules.specs.declared.answers.Call.{Call}
use Rattle.rules.specs.declared.answers.Call.TheVariants.{Load, Step, Run}
use Rattle.rules.specs.declared.answers.Stop.{Stop}
use Rattle.rules.specs.declared.answers.Stop.TheVariants.{AtEnd, BudgetUsed, NoStep, OffCurve}
use Rattle.quantities.proofs.Limits.{within_parts}

-- what is not outside limits keeps them
not_outside : (limits : Limits) (n : ℕ) → T (not (not (within limits n))) → (limits.least ≤ n) × (n ≤ limits.most)
not_outside limits n t = within_parts limits n (twice_not (within limits n) t)

-- a stop is no step
stop_goes : (stop : Stop) (t : ℕ) → stops stop ≡ goes t → ⊥
stop_goes stop t e = let z : ◌≡◌ {A = ℕ} 0 1 = cc in omega arith

module _ (site : Site) (sound : T (table_sound site.load_table)) where
  -- what the loop finds is a step to take only if that is the longest one, is not 0 and stays on the curve
  pub turn_goes : (s : State) (longest t : ℕ) → turn site s longest ≡ goes t →
      (longest ≡ t) × (1 ≤ t) × T (not (leaves_curve site s t))
  unfolding turn
  turn_goes s zero t e = absurd (stop_goes NoStep t e)
  turn_goes s (suc u) t e = go (leaves_curve site s (suc u)) refl e
    where
      go : (c : Bool) → leaves_curve site s (suc u) ≡ c → elim c as (λ _. Turn) [ true ↦ stops OffCurve | false ↦ goes (suc u) ] ≡ goes t →
          (suc u ≡ t) × (1 ≤ t) × T (not (leaves_curve site s t))
      go true k e = absurd (stop_goes OffCurve t e)
      go false k e =
          let same : suc u ≡ t = cc in
          let on : T (not (leaves_curve site s (suc u))) = rw k tt in
          (same, omega arith, subst (λ (v : ℕ). T (not (leaves_curve site s v))) same on)

  -- the longest step does not pass the end
  pub longest-within : (end : ℕ) (s : State) → s.clock ≤ end → s.clock + longest_step site end s ≤ end
  unfolding longest_reach
  longest-within end s h = omega (arith, (longest-accepted site end s).0)

  -- a run sets loads of the table and takes longest steps, up to its end
  pub run_accepted : (end budget : ℕ) (s : State) → s.clock ≤ end → end ≤ clock_limits.most →
      AllAccepted site s (running site end budget s).events
  unfolding running AllAccepted Accepted after_event with_load stepped
  run_accepted end zero s h k =
      by_test (eqb s.clock end)
      (λ c. AllAccepted site s (elim c as (λ _. RunOutcome) [
        | true ↦ record { stop = AtEnd; events = [] }
        | false ↦ record { stop = BudgetUsed; events = [] }
      ]).events)
      (λ _. tt) (λ _. tt)
  run_accepted end (suc budget) s h k =
      by_test (eqb s.clock end)
      (λ c. AllAccepted site s (elim c as (λ _. RunOutcome) [
        | true ↦ record { stop = AtEnd; events = [] }
        | false ↦ found (turn site loaded longest)
      ]).events)
      (λ _. tt)
      (λ _. go (turn site loaded longest) refl (run_accepted end budget))
    where
      load : ℤ
      load = load_at site.load_table s.clock

      loaded : State
      loaded = with_load load s

      longest : ℕ
      longest = longest_step site end loaded

      found : Turn → RunOutcome
      found (stops stop) = record { stop = stop; events = load_set load ∷ [] }
      found (goes t) =
          let rest = running site end budget (stepped site t loaded) in
          record { stop = rest.stop; events = load_set load ∷ step_taken t ∷ rest.events }

      go : (x : Turn) → turn site loaded longest ≡ x →
          ((s' : State) → s'.clock ≤ end → end ≤ clock_limits.most → AllAccepted site s' (running site end budget s').events) →
          AllAccepted site s (found x).events
      go (stops stop) e ih = (sound_load site.load_table sound s.clock, tt)
      go (goes t) e ih =
          let (is, least, stays) = turn_goes loaded longest t e in
          let within : s.clock + t ≤ end = omega (arith, longest-within end loaded h) in
          let short = subst (λ (v : ℕ). T (not (too_long site loaded v))) is (longest-accepted site end loaded).1 in (
            sound_load site.load_table sound s.clock,
            (record { least = least; clock_most = omega arith; short = short; stays = stays }, ih (stepped site t loaded) within k),
          )

  pub call_accepted : (s : State) (call : Call) → AllAccepted site s (outcome site s call).events
  unfolding outcome refused ran load_refusal step_refusal run_refusal AllAccepted Accepted Every
  call_accepted s (Load load) =
      by_first (λ o. AllAccepted site s o.events) (load_trials load) (record { answer = Done; events = load_set (pos load) ∷ [] }) (λ _ _. tt)
      (λ free. let most = (not_outside stress_limits load free.0).1 in ((omega signed, omega signed), tt))
  call_accepted s (Step t) =
      by_first (λ o. AllAccepted site s o.events) (step_trials site s t) (record { answer = Done; events = step_taken t ∷ [] }) (λ _ _. tt)
      (λ free.
      let (kept, clock) = neither (not (within step_limits t)) (not (within clock_limits (s.clock + t))) free.0 in
      let accepted : StepAccepted site s t = record {
        least = (not_outside step_limits t kept).0;
        clock_most = (not_outside clock_limits (s.clock + t) clock).1;
        short = free.1.0;
        stays = free.1.1.0;
      } in
      (accepted, tt))
  call_accepted s (Run end budget) =
      by_first (λ o. AllAccepted site s o.events) (run_trials s end budget) (ran site end budget s) (λ _ _. tt)
      (λ free.
      let early = ltb end s.clock in
      let past = not (within clock_limits end) in
      let (first, few) = neither (early || past) (not (within budget_limits budget)) free.0 in
      let (not-early, not-past) = neither early past first in
      run_accepted end budget s (nltb→le end s.clock not-early) (not_outside clock_limits end not-past).1)
