-- What a step answers, by the tests that it passes, and the arrays that it works with.
use Prim.Native.Nat.{ℕ, ◌+◌, ◌≤◌, ◌<◌}
use lib.Dec.{T}
use lib.IntN.{ℤ, pos}
use lib.ListN.{get_or}
use mathlib.Core.Bool.{Bool, true, false, not, ◌||◌}
use mathlib.Core.List.{List, [], ◌∷◌}
use Rattle.std.specs.Prelude.{Option, None, Some}
use native.Mathlib.Omega.{arith}
use mathlib.Core.Path.{◌≡◌, refl, sym, ap, subst, ◌∙◌}
use Rattle.lent.proofs.CallLaws.{on_layer, refused_on_layer}
use Rattle.lent.specs.Progress.{refused_with}
use Rattle.lent.specs.Burdens.{burdens_in}
use Rattle.lent.proofs.LayerReads.{steepness_range}
use Rattle.lent.proofs.Standing.{site_is, state_is, counted, weighted, solid, on_soil}
use Rattle.laws.proofs.Every.{every_tabulate}
use Rattle.laws.proofs.Excess.{excesses-within}
use Rattle.laws.proofs.Outflow.{OuterWithin, outflow_within}
use Rattle.layer.specs.Soil.{OnSoil}
use Rattle.numbers.specs.Arrays.{first_places}
use Rattle.numbers.proofs.Filled.{first_length}
use Rattle.numbers.specs.Interval.{Within}
use Rattle.numbers.specs.Lists.{first_or, last_or}
use Rattle.numbers.proofs.Searches.{passed}
use Rattle.rules.specs.Layer.{Site, State, read_elements}
use Rattle.rules.specs.Calls.{called}
use Rattle.rules.specs.declared.answers.Answered.{Answered}
use Rattle.rules.specs.Outcome.{Outcome, refused, outcome}
use Rattle.quantities.specs.Quantities.{within, step_limits, clock_limits, solids_limits}
use Rattle.rules.specs.Record.{record_site, record_state, is_layer}
use Rattle.rules.specs.Refusals.{◌if◌, first_cause}
use Rattle.rules.specs.Run.{step_taken}
use Rattle.rules.specs.Step.{upward_flows, site_steepness, too_long, leaves_curve, step_refusal}
use Rattle.rules.specs.declared.answers.Answer.TheVariants.{Done, Refused}
use Rattle.rules.specs.declared.answers.Call.TheVariants.{Step}
use Rattle.rules.specs.declared.answers.Refusal.{Refusal}
use Rattle.rules.specs.declared.answers.Refusal.TheVariants.{StepOutside, StepTooLong, StepOffCurve}
use Rattle.rules.specs.declared.record.Record.{Record}

-- ---- what a step answers

module _ (site : Site) (s : State) (t : ℕ) where
  pub by_refusal : (cause : Option Refusal) → step_refusal site s t ≡ cause →
      outcome site s (Step t) ≡ elim cause [ Some cause ↦ refused cause | None ↦ record { answer = Done; events = step_taken t ∷ [] } ]
  unfolding outcome
  by_refusal cause e =
      ap (λ (c : Option Refusal). elim c as (λ _. Outcome) [ Some x ↦ refused x | None ↦ record { answer = Done; events = step_taken t ∷ [] } ]) e

  -- the refusal by the tests of its causes
  by_tests : {a b c d : Bool} → within step_limits t ≡ a → within clock_limits (s.clock + t) ≡ b → too_long site s t ≡ c → leaves_curve site s t ≡ d →
      step_refusal site s t ≡ first_cause ((StepOutside if (not a || not b)) ∷ (StepTooLong if c) ∷ (StepOffCurve if d) ∷ [])
  unfolding step_refusal
  by_tests p q u v = rw (p, q, u, v) refl

  pub step_length_outside : within step_limits t ≡ false → outcome site s (Step t) ≡ refused StepOutside
  unfolding first_cause
  step_length_outside p = by_refusal (Some StepOutside) (by_tests p refl refl refl)

  pub clock_outside : within step_limits t ≡ true → within clock_limits (s.clock + t) ≡ false → outcome site s (Step t) ≡ refused StepOutside
  unfolding first_cause
  clock_outside p q = by_refusal (Some StepOutside) (by_tests p q refl refl)

  module _ (p : within step_limits t ≡ true) (q : within clock_limits (s.clock + t) ≡ true) where
    pub step_too_long : too_long site s t ≡ true → outcome site s (Step t) ≡ refused StepTooLong
    unfolding first_cause
    step_too_long u = by_refusal (Some StepTooLong) (by_tests p q u refl)

    pub step_off_curve : too_long site s t ≡ false → leaves_curve site s t ≡ true → outcome site s (Step t) ≡ refused StepOffCurve
    unfolding first_cause
    step_off_curve u v = by_refusal (Some StepOffCurve) (by_tests p q u v)

    pub step_taken_lem : too_long site s t ≡ false → leaves_curve site s t ≡ false →
        outcome site s (Step t) ≡ record { answer = Done; events = step_taken t ∷ [] }
    unfolding first_cause
    step_taken_lem u v = by_refusal None (by_tests p q u v)

-- a step that is refused leaves the record
pub step_refused : (r : Record) (t : ℕ) (cause : Refusal) → is_layer r ≡ true → (called r (Step t)).answer ≡ Refused cause →
    refused_with cause r ≡ called r (Step t)
unfolding refused
step_refused r t cause is e = go (step_refusal (record_site r) (record_state r) t) refl
  where
    go : (found : Option Refusal) → step_refusal (record_site r) (record_state r) t ≡ found → refused_with cause r ≡ called r (Step t)
    go (Some other) p =
        let answers = refused_on_layer r (Step t) other is (by_refusal (record_site r) (record_state r) t (Some other) p) in
        let same : other ≡ cause = cc (sym (ap (λ (a : Answered). a.answer) answers) ∙ e) in
        sym (answers ∙ ap (λ (c : Refusal). refused_with c r) same)
    go None p =
        let answers = on_layer r (Step t) _ is (by_refusal (record_site r) (record_state r) t None p) in
        let done : Done ≡ Refused cause = sym (ap (λ (a : Answered). a.answer) answers) ∙ e in
        absurd (let z : ◌≡◌ {A = ℕ} 0 1 = cc in omega arith)

-- ---- a layer

pub on_soil_as : (r : Record) (is : is_layer r ≡ true) {b : List ℕ} → b ≡ burdens_in r.layer.frame r.layer.solids → (j : ℕ) → j < r.layer.frame.elements →
    OnSoil r.soil.counts.compressibility r.soil.compressibility_void r.soil.compressibility_stress r.layer.progress.load.0 (get_or b j 0) (get_or r.layer.solids j 0) (get_or r.layer.water j 0)
on_soil_as r is e j h = rw e (on_soil r is j h)

-- a bound holds for an equal number
pub within_as : {a b : ℤ} {n : ℕ} → a ≡ b → Within b n → Within a n
within_as e h = rw e h

-- ---- the outer flows of a step that is not too long are in range

pub outer_flows : (r : Record) (is : is_layer r ≡ true) (t : ℕ) → 1 ≤ t → too_long (record_site r) (record_state r) t ≡ false →
    OuterWithin t (first_or (pos 0) (upward_flows r.layer.frame.top r.layer.frame.bottom t (read_elements (record_site r) (record_state r)))) ×
    OuterWithin t (last_or (pos 0) (upward_flows r.layer.frame.top r.layer.frame.bottom t (read_elements (record_site r) (record_state r))))
unfolding record_site record_state first_places site_steepness
outer_flows r is t h short =
    let n = r.layer.frame.elements in
    outflow_within (record_site r) (record_state r) t h
    (steepness_range r is).0
    (every_tabulate (λ S. 0 < S) n (λ i. get_or r.layer.solids i 0) (λ i l. (solid r is i l).0))
    (site_is r is).top_held (site_is r is).bottom_held
    (excesses-within (record_site r) (passed (site_is r is).compressibility) (record_state r) (state_is r is).load_between (weighted r is).1
    (every_tabulate (λ S. S ≤ solids_limits.most) n (λ i. get_or r.layer.solids i 0) (λ i l. (solid r is i l).1))
    (rw (first_length n r.layer.solids) (counted r is).1))
    (subst (λ (b : Bool). T (not b)) (sym short) tt)
