-- The longest step over a layer's arrays is the rules' turn.
use Prim.Native.Nat.{ℕ, zero, suc, ◌≤◌, ◌<◌}
use lib.IntN.{ℤ, pos}
use lib.ListN.{get_or}
use mathlib.Core.Bool.{Bool, true, false, not}
use mathlib.Core.List.{List}
use mathlib.Core.Path.{◌≡◌, refl, sym, ap, ◌∙◌}
use Rattle.element.specs.Elements.{Readable}
use Rattle.layer_step.proofs.MovingAt.{gives_leaves, gives_flows, keeps, moves_on}
use Rattle.layer_step.specs.Moving.{flows_in, stays_between, moved_in, longest_by, water_longest, flows_longest}
use Rattle.layer_step.specs.declared.Taken.{Taken}
use Rattle.std.specs.Prelude.{Result, Ok, Err}
use Rattle.rules.specs.declared.answers.Stop.{Stop}
use Rattle.lent.proofs.LayerReads.{steepness_range, readable, limited, bounds_most, waters_most, longest_is, flows_are, leaves_is, stepped_is, above_are}
use Rattle.lent.specs.Worked.{WorkedOut, least_water_in, most_water_in, excesses_in, resistances_in}
use Rattle.numbers.specs.Lists.{first_or, last_or, greatest}
use Rattle.pass.specs.Passing.{turned, flows_turned}
use Rattle.rules.specs.Layer.{Site, State, read_elements}
use Rattle.rules.specs.Record.{record_site, record_state, with_state, is_layer}
use Rattle.rules.specs.Run.{Turn, stops, goes, turn}
use Rattle.rules.specs.Step.{upward_flows, too_long, leaves_curve}
use Rattle.quantities.specs.Quantities.{stress_limits, water_limits}
use Rattle.rules.specs.declared.answers.Stop.TheVariants.{OffCurve}
use Rattle.quantities.specs.declared.Face.{Face}
use Rattle.rules.specs.declared.record.Record.{Record}
use Rattle.step_length.specs.Reach.{Limited, longest_within}

-- what the longest step gives, by the rules' turn
unfoldable pub gives : Record → Turn → Result Taken Stop
unfolding first_or last_or upward_flows read_elements
gives r (stops stop) = Err stop
gives r (goes t) =
    let flows = upward_flows r.layer.frame.top r.layer.frame.bottom t (read_elements (record_site r) (record_state r)) in
    Ok (record { seconds = t; flows = record { bottom = first_or (pos 0) flows; top = last_or (pos 0) flows } })

-- a step taken with the first and the last of its flows
abbrev taken-by : ℕ → List ℤ → Result Taken Stop
taken-by t flows = Ok (record { seconds = t; flows = record { bottom = first_or (pos 0) flows; top = last_or (pos 0) flows } })

-- a turn with a step, by whether it leaves the curve
leaving : (site : Site) (s : State) (t : ℕ) (leaves : Bool) → leaves_curve site s (suc t) ≡ leaves →
    turn site s (suc t) ≡ elim leaves [ true ↦ stops OffCurve | false ↦ goes (suc t) ]
unfolding turn
leaving site s t leaves e = ap (λ (b : Bool). elim b as (λ _. Turn) [ true ↦ stops OffCurve | false ↦ goes (suc t) ]) e

module _ (r : Record) (is : is_layer r ≡ true) (excess₀ : List ℤ) (resistance₀ : List ℕ) (above : List ℤ) where
  abbrev n : ℕ
  n = r.layer.frame.elements

  abbrev flows : ℕ → List ℤ
  flows t = flows_in r.layer.frame.top r.layer.frame.bottom t n (excesses_in r excess₀) (resistances_in r resistance₀)

  abbrev longest-turn : ℕ → Turn
  longest-turn t = turn (record_site r) (record_state r) t

  abbrev Same : ℕ → Type 0
  Same t =
      (longest_by t (moved_in n (least_water_in r) (most_water_in r) r.layer.water (flows t)) ≡ gives r (longest-turn t)) ×
      (water_longest t n (least_water_in r) (most_water_in r) r.layer.water (flows t) ≡ (turned r (longest-turn t)).layer.water) ×
      (flows_longest t n r.layer.frame.top (excesses_in r excess₀) (resistances_in r resistance₀) above ≡ flows_turned r t above)

  by_stay : (t : ℕ) (stays : Bool) → stays_between n (least_water_in r) (most_water_in r) r.layer.water (flows (suc t)) ≡ stays → Same (suc t)
  unfolding longest_by water_longest flows_longest flows_turned turned gives with_state
  by_stay t false e =
      let off = leaving (record_site r) (record_state r) t true (leaves_is r is excess₀ resistance₀ (suc t) ∙ ap not e) in (
        ap (longest_by (suc t)) (sym (gives_leaves (flows (suc t)) e)) ∙ rw off refl,
        sym (keeps n r.layer.water (flows (suc t)) e) ∙ rw off refl,
        above_are r is excess₀ resistance₀ (suc t) above,
      )
  by_stay t true e =
      let on = leaving (record_site r) (record_state r) t false (leaves_is r is excess₀ resistance₀ (suc t) ∙ ap not e) in (
        ap (longest_by (suc t)) (sym (gives_flows (flows (suc t)) e refl refl)) ∙
            ap (λ (l : List ℤ). taken-by (suc t) l) (flows_are r is excess₀ resistance₀ (suc t)) ∙ rw on refl,
        sym (moves_on n r.layer.water (flows (suc t)) e) ∙ stepped_is r is excess₀ resistance₀ (suc t) ∙ rw on refl,
        above_are r is excess₀ resistance₀ (suc t) above,
      )

  pub same : (t : ℕ) → Same t
  unfolding longest_by water_longest flows_longest flows_turned turned gives turn
  same zero = (refl, refl, refl)
  same (suc t) = by_stay t (stays_between n (least_water_in r) (most_water_in r) r.layer.water (flows (suc t))) refl

-- ---- the same for arrays that are the layer's

abbrev top : Record → Face
top r = r.layer.frame.top

abbrev bottom : Record → Face
bottom r = r.layer.frame.bottom

abbrev count : Record → ℕ
count r = r.layer.frame.elements

module _ (r : Record) (is : is_layer r ≡ true) (excess₀ : List ℤ) (resistance₀ : List ℕ) {excess : List ℤ} {resistance burden sensitivity low high : List ℕ}
    {steepness : ℕ} (excess_is : excess ≡ excesses_in r excess₀) (resistance_is : resistance ≡ resistances_in r resistance₀)
    (worked : WorkedOut r burden sensitivity low high steepness) where
  pub steepness_ranged : (0 < steepness) × (steepness ≤ stress_limits.most)
  steepness_ranged = rw worked.steepness_is (steepness_range r is)

  pub limited_now : Limited (count r) resistance sensitivity
  limited_now = rw (resistance_is, worked.sensitivity_is) (limited r is excess₀ resistance₀)

  pub readable_now : Readable (count r) excess resistance
  readable_now = rw (excess_is, resistance_is) (readable r is excess₀ resistance₀)

  pub waters : (j : ℕ) → j < (count r) → (get_or low j 0 ≤ water_limits.most) × (get_or high j 0 ≤ water_limits.most) × (get_or r.layer.water j 0 ≤ water_limits.most)
  waters j h = rw (worked.low_is, worked.high_is) ((bounds_most r is j h).0, (bounds_most r is j h).1, waters_most r is j h)

  module _ (most : ℕ) where
    abbrev within_most : ℕ
    within_most = longest_within (top r) (bottom r) steepness (count r) resistance sensitivity most

    longest_now : within_most ≡ greatest most (λ t. not (too_long (record_site r) (record_state r) t))
    longest_now = rw (resistance_is, worked.sensitivity_is, worked.steepness_is) (longest_is r is excess₀ resistance₀ most)

    pub turn_is : (above : List ℤ) {t : ℕ} → greatest most (λ t. not (too_long (record_site r) (record_state r) t)) ≡ t →
        (longest_by within_most (moved_in (count r) low high r.layer.water (flows_in (top r) (bottom r) within_most (count r) excess resistance)) ≡ gives r (turn (record_site r) (record_state r) t)) ×
        (water_longest within_most (count r) low high r.layer.water (flows_in (top r) (bottom r) within_most (count r) excess resistance) ≡ (turned r (turn (record_site r) (record_state r) t)).layer.water) ×
        (flows_longest within_most (count r) (top r) excess resistance above ≡ flows_turned r t above)
    turn_is above {t} e =
        rw (longest_now ∙ e, excess_is, resistance_is, worked.low_is, worked.high_is) (same r is excess₀ resistance₀ above t)
