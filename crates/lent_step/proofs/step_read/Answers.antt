use Prim.Native.Nat.{ℕ, ◌+◌, ◌*◌, ◌≤◌, ◌<◌}
use native.Mathlib.Omega.{arith}
use lib.IntN.{ℤ, pos, ◌+ℤ◌, ◌-ℤ◌}
use lib.ListN.{get_or, replicate}
use mathlib.Core.Bool.{Bool, true, false, not}
use mathlib.Core.List.{List, [], ◌∷◌}
use mathlib.Core.Path.{◌≡◌, refl, sym, ap, subst, ◌∙◌}
use mir.Syntax.{w64}
use mir.Val.{SFits}
use Rattle.lent_step.specs.Answers.{step_answered}
use Rattle.lent_step.specs.Read.{ReadAs}
use Rattle.lent_step.proofs.Read.{lent_of, lent_is, lent_read}
use Rattle.layer_step.specs.declared.Flows.{Flows}
use Rattle.std.specs.Prelude.{Some, Result, Ok, Err}
use Rattle.lent.proofs.CallLaws.{on_layer, refused_on_layer}
use Rattle.lent.specs.Progress.{later}
use Rattle.lent.proofs.LayerReads.{readable, waters_most, limited, bounds_most, steepness_range, too_long_is, flows, flows_are, leaves_is, stepped_is}
use Rattle.lent.proofs.Standing.{site_is, state_is, counted}
use Rattle.lent.specs.Worked.{sensitivities_in, least_water_in, most_water_in, resistances_in}
use Rattle.lent.proofs.StepLaws.{step_too_long, step_off_curve, step_taken_lem, within_as, outer_flows}
use Rattle.element.specs.Elements.{Readable}
use Rattle.layer_step.proofs.MovingAt.{keeps, moves_on, leaves_off, flows_on}
use Rattle.layer_step.specs.Moving.{flows_in, stays_between, moved_by, moved_in, water_by, water_in}
use Rattle.numbers.specs.Arrays.{zeros, overlaid}
use Rattle.quantities.specs.declared.Face.{Face}
use Rattle.numbers.specs.Interval.{Within}
use Rattle.numbers.proofs.Interval.{within-add, within-sub, within_le, within_fits}
use Rattle.numbers.specs.Lists.{first_or, last_or}
use Rattle.numbers.proofs.Searches.{passed}
use Rattle.step_length.specs.Reach.{Limited, is_too_long}
use Rattle.quantities.proofs.Limits.{within_parts}
use Rattle.rules.specs.Calls.{called}
use Rattle.rules.specs.Layer.{State, read_elements}
use Rattle.quantities.specs.Quantities.{step_limits, clock_limits, water_limits, outflow_rate}
use Rattle.rules.specs.Record.{record_site, record_state, progress_of, with_state, with_events, is_layer}
use Rattle.rules.specs.Run.{step_taken, after_event, after_events}
use Rattle.rules.specs.Step.{upward_flows, too_long, stepped}
use Rattle.rules.specs.declared.answers.Answer.TheVariants.{Done}
use Rattle.rules.specs.declared.answers.Call.TheVariants.{Step}
use Rattle.rules.specs.declared.answers.Refusal.{Refusal}
use Rattle.rules.specs.declared.answers.Refusal.TheVariants.{StepTooLong, StepOffCurve}
use Rattle.rules.specs.declared.record.Progress.{Progress}
use Rattle.rules.specs.declared.record.Record.{Record}
use Rattle.lent_step.proofs.step_read.Goals as goal
use Rattle.lent_step.proofs.step_read.Lts as lts
use Rattle.lent_step.proofs.step_read.Reads as reads
use Rattle.lent_step.proofs.step_read.Tie as tie

abbrev Given : lts.Start tie.the-claims reads.Pre reads.Post tie.handed_clauses → Record → Type 0
Given s x =
    let a = s.args in
    ReadAs x a.frame a.progress a.steepness a.sensitivity.now a.low.now a.high.now a.excess.now a.resistance.now a.water.now

module _ (s : lts.Start tie.the-claims reads.Pre reads.Post tie.handed_clauses) where
  abbrev n : ℕ
  n = s.args.frame.elements

  abbrev t : ℕ
  t = s.args.t

  t_within : (1 ≤ t) × (t ≤ step_limits.most)
  t_within = within_parts step_limits t (passed s.requires.t_value.0)

  clock-sum : s.args.progress.clock.0 + t ≤ clock_limits.most
  clock-sum = (within_parts clock_limits (s.args.progress.clock.0 + t) (passed s.requires.t_value.1)).1

  module _ {x : Record} (given : Given s x) where
    abbrev r : Record
    r = lent_of x s.args.frame s.args.progress s.args.water.now

    read : Given s r
    read = lent_read given

    abbrev is : is_layer r ≡ true
    is = read.is

    answers : (o : Result Progress Refusal) (w : List ℕ) → step_answered r o w ≡ called r (Step t) → step_answered x o w ≡ called x (Step t)
    answers o w = subst (λ (y : Record). step_answered y o w ≡ called y (Step t)) (sym (lent_is given))

-- what is read stands in arrays of zeros
abbrev nothing : List ℤ
nothing = replicate 128 (pos 0)

abbrev none : List ℕ
none = zeros 128

-- the same for equal arrays
limited-as : (n : ℕ) {q q' c c' : List ℕ} → q' ≡ q → c' ≡ c → Limited n q c → Limited n q' c'
limited-as n e k h = rw (e, k) h

range-as : {g g' most : ℕ} → g' ≡ g → (0 < g) × (g ≤ most) → (0 < g') × (g' ≤ most)
range-as e h = rw e h

bounds-as : (n : ℕ) {l l' h h' : List ℕ} → l' ≡ l → h' ≡ h → ((j : ℕ) → j < n → (get_or l j 0 ≤ water_limits.most) × (get_or h j 0 ≤ water_limits.most)) →
    (j : ℕ) → j < n → (get_or l' j 0 ≤ water_limits.most) × (get_or h' j 0 ≤ water_limits.most)
bounds-as n e k b = rw (e, k) b

readable-as : (n : ℕ) {excess excess' : List ℤ} {resistance resistance' : List ℕ} → excess' ≡ excess → resistance' ≡ resistance →
    Readable n excess resistance → Readable n excess' resistance'
readable-as n p q h = rw (p, q) h

module _ (top bottom : Face) (t n : ℕ) {excess excess' : List ℤ} {resistance resistance' low low' high high' : List ℕ} (p : excess' ≡ excess)
    (q : resistance' ≡ resistance) (u : low' ≡ low) (v : high' ≡ high) (water : List ℕ) where
  moved_as :
      moved_in n low' high' water (flows_in top bottom t n excess' resistance') ≡ moved_in n low high water (flows_in top bottom t n excess resistance)
  moved_as = rw (p, q, u, v) refl

  water-as :
      water_in n low' high' water (flows_in top bottom t n excess' resistance') ≡ water_in n low high water (flows_in top bottom t n excess resistance)
  water-as = rw (p, q, u, v) refl

pub too_long-requires : goal.too_long-requires
too_long-requires c = let g = c.requires.some_read.read in record {
  elements_nonzero = counted (r c g) (is c g);
  steepness_nonzero = range-as (read c g).steepness_is (steepness_range (r c g) (is c g));
  limited = limited-as (n c) (read c g).resistance_is (read c g).sensitivity_is (limited (r c g) (is c g) nothing none);
  t_le_most = (t_within c).1;
}

module _ (c : lts.After-too_long tie.the-claims reads.Pre reads.Post tie.handed_clauses) {x : Record} (given : Given c.before x) where
  abbrev s : lts.Start tie.the-claims reads.Pre reads.Post tie.handed_clauses
  s = c.before

  abbrev r₁ : Record
  r₁ = r s given

  abbrev read₁ : Given s r₁
  read₁ = read s given

  tested : c.too_long.result ≡ too_long (record_site r₁) (record_state r₁) (t s)
  tested =
      c.too_long.ensures ∙
      ap (λ (q : List ℕ). is_too_long s.args.frame.top s.args.frame.bottom s.args.steepness (n s) q s.args.sensitivity.now (t s)) read₁.resistance_is ∙
      ap (λ (q : List ℕ). is_too_long s.args.frame.top s.args.frame.bottom s.args.steepness (n s) (resistances_in r₁ none) q (t s)) read₁.sensitivity_is ∙
      ap (λ (g : ℕ). is_too_long s.args.frame.top s.args.frame.bottom g (n s) (resistances_in r₁ none) (sensitivities_in r₁) (t s)) read₁.steepness_is ∙
      too_long_is r₁ read₁.is nothing none (t s)

pub returns-then-too_long : goal.returns-then-too_long
unfolding record_state step_answered
returns-then-too_long c x given =
    let s = c.before.before in
    let r = r₁ c.before given in
    answers s given (Err StepTooLong) s.args.water.now
    (sym (refused_on_layer r (Step (t s)) StepTooLong (is s given)
    (step_too_long (record_site r) (record_state r) (t s) s.requires.t_value.0 s.requires.t_value.1 (sym (tested c.before given) ∙ c.if-too_long.true))))

pub advance-moved-requires : goal.advance-moved-requires
advance-moved-requires c = let s = c.before.before.before.before in
    let g = s.requires.some_read.read in
    let between = bounds-as (n s) (read s g).low_is (read s g).high_is (bounds_most (r s g) (is s g)) in record {
      elements_nonzero = counted (r s g) (is s g);
      held_within = ((site_is (r s g) (is s g)).top_held, (site_is (r s g) (is s g)).bottom_held);
      t_le_most = (t_within s).1;
      readable = readable-as (n s) (read s g).excess_is (read s g).resistance_is (readable (r s g) (is s g) nothing none);
      by_index = (λ j h. ((between j h).0, (between j h).1, waters_most (r s g) (is s g) j h));
      above_len = (refl, s.requires.water_len);
    }

module _ (c : lts.After-advance tie.the-claims reads.Pre reads.Post tie.handed_clauses) {x : Record} (given : Given c.before.before.before.before.before x) where
  abbrev e₂ : lts.Else1 tie.the-claims reads.Pre reads.Post tie.handed_clauses
  e₂ = c.before.before.before

  abbrev s₂ : lts.Start tie.the-claims reads.Pre reads.Post tie.handed_clauses
  s₂ = e₂.before.before

  abbrev r₂ : Record
  r₂ = r s₂ given

  abbrev is₂ : is_layer r₂ ≡ true
  is₂ = is s₂ given

  short : too_long (record_site r₂) (record_state r₂) (t s₂) ≡ false
  short = sym (tested e₂.before given) ∙ e₂.if-too_long.false

  abbrev moving : List ℤ
  moving = flows r₂ is₂ nothing none (t s₂)

  abbrev stays : Bool
  stays = stays_between (n s₂) (least_water_in r₂) (most_water_in r₂) s₂.args.water.now moving

  gave : c.advance-moved.result ≡ moved_by stays moving
  gave =
      c.advance-moved.ensures.value ∙
      moved_as s₂.args.frame.top s₂.args.frame.bottom (t s₂) (n s₂) (read s₂ given).excess_is (read s₂ given).resistance_is (read s₂ given).low_is (read s₂ given).high_is s₂.args.water.now

  abbrev left : List ℕ
  left = c.advance-moved.new.water

  water_left : left ≡ water_by stays (n s₂) s₂.args.water.now moving
  water_left =
      c.advance-moved.ensures.water_after ∙
      water-as s₂.args.frame.top s₂.args.frame.bottom (t s₂) (n s₂) (read s₂ given).excess_is (read s₂ given).resistance_is (read s₂ given).low_is (read s₂ given).high_is s₂.args.water.now

pub returns-in-None : goal.returns-in-None
unfolding record_state step_answered
returns-in-None c x given =
    let a = c.before in
    let s = s₂ a given in
    let r = r₂ a given in
    let gone = leaves_off (stays a given) (moving a given) (sym c.in-None.is ∙ gave a given) in
    let kept : left a given ≡ s.args.water.now = water_left a given ∙ sym (keeps (n s) s.args.water.now (moving a given) gone) in
    answers s given (Err StepOffCurve) (left a given)
    (ap (λ (w : List ℕ). step_answered r (Err StepOffCurve) w) kept ∙
    sym (refused_on_layer r (Step (t s)) StepOffCurve (is s given)
    (step_off_curve (record_site r) (record_state r) (t s) s.requires.t_value.0 s.requires.t_value.1 (short a given) (leaves_is r (is s given) nothing none (t s) ∙ ap not gone))))

-- the flows of a step that stays on the curve
module _ (a : lts.After-advance tie.the-claims reads.Pre reads.Post tie.handed_clauses) (flows : Flows) (some_flows : a.advance-moved.result ≡ Some flows) where
  abbrev s₃ : lts.Start tie.the-claims reads.Pre reads.Post tie.handed_clauses
  s₃ = a.before.before.before.before.before

  module _ {x : Record} (given : Given s₃ x) where
    abbrev r₃ : Record
    r₃ = r s₃ given

    abbrev is₃ : is_layer r₃ ≡ true
    is₃ = is s₃ given

    flowed : (stays a given ≡ true) × (flows.bottom ≡ first_or (pos 0) (moving a given)) × (flows.top ≡ last_or (pos 0) (moving a given))
    flowed = flows_on (stays a given) (moving a given) flows (sym some_flows ∙ gave a given)

    first_within : Within flows.bottom (outflow_rate * t s₃)
    first_within = within_as (flowed.1 ∙ ap (first_or (pos 0)) (flows_are r₃ is₃ nothing none (t s₃))) (outer_flows r₃ is₃ (t s₃) (t_within s₃).0 (short a given)).0

    last_within : Within flows.top (outflow_rate * t s₃)
    last_within = within_as (flowed.2 ∙ ap (last_or (pos 0)) (flows_are r₃ is₃ nothing none (t s₃))) (outer_flows r₃ is₃ (t s₃) (t_within s₃).0 (short a given)).1

    top-sum : SFits w64 (s₃.args.progress.top_outflow.0 +ℤ flows.top)
    top-sum = within_fits {n = outflow_rate * clock_limits.most} tt (within_le (within-add (state_is r₃ is₃).top_bound last_within) (omega (arith, clock-sum s₃)))

    bottom-sum : SFits w64 (s₃.args.progress.bottom_outflow.0 -ℤ flows.bottom)
    bottom-sum = within_fits {n = outflow_rate * clock_limits.most} tt (within_le (within-sub (state_is r₃ is₃).bottom_bound first_within) (omega (arith, clock-sum s₃)))

    -- the state after the step
    abbrev next : State
    next = stepped (record_site r₃) (t s₃) (record_state r₃)

    water-next : left a given ≡ overlaid next.water s₃.args.water.now
    water-next = water_left a given ∙ sym (moves_on (n s₃) s₃.args.water.now (moving a given) flowed.0) ∙ stepped_is r₃ is₃ nothing none (t s₃)

    progress-next : later s₃.args.progress (t s₃) flows.bottom flows.top ≡ progress_of next
    unfolding stepped record_site record_state
    progress-next =
        let same = flows_are r₃ is₃ nothing none (t s₃) in
        ap (λ (z : ℤ). later s₃.args.progress (t s₃) z flows.top) (flowed.1 ∙ ap (first_or (pos 0)) same) ∙
        ap (λ (z : ℤ). later s₃.args.progress (t s₃) (first_or (pos 0) (upward_flows s₃.args.frame.top s₃.args.frame.bottom (t s₃) (read_elements (record_site r₃) (record_state r₃)))) z) (flowed.2 ∙ ap (last_or (pos 0)) same)

pub later-requires-clause-t_bound : goal.later-requires-clause-t_bound
later-requires-clause-t_bound c = omega (arith, clock-sum c.before.before.before.before.before.before)

pub later-requires-clause-sfits : goal.later-requires-clause-sfits
later-requires-clause-sfits c =
    let g = c.requires.some_read.read in
    let told = c.in-Some.is in
    (top-sum c.before c.in-Some.flows told g, bottom-sum c.before c.in-Some.flows told g)

pub returns-in-Some : goal.returns-in-Some
unfolding step_answered with_events after_events after_event with_state record_state
returns-in-Some c x given =
    let a = c.before.before in
    let flows = c.in-Some.flows in
    let told = c.in-Some.is in
    let s = s₃ a flows told in
    let r = r₃ a flows told given in
    answers s given (Ok c.later.result) (left a given)
    (ap (λ (p : Progress). step_answered r (Ok p) (left a given)) (c.later.ensures ∙ progress-next a flows told given) ∙
    ap (λ (w : List ℕ). step_answered r (Ok (progress_of (next a flows told given))) w) (water-next a flows told given) ∙
    sym (on_layer r (Step (t s)) (record { answer = Done; events = step_taken (t s) ∷ [] }) (is s given)
    (step_taken_lem (record_site r) (record_state r) (t s) s.requires.t_value.0 s.requires.t_value.1 (short a given) (leaves_is r (is s given) nothing none (t s) ∙ ap not (flowed a flows told given).0))))
