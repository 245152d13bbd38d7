use Prim.Native.Nat.{ℕ, ◌*◌, ◌≤◌}
use native.Mathlib.Omega.{arith}
use lib.IntN.{pos, ◌+ℤ◌}
use mathlib.Core.Bool.{Bool, true, ◌&&◌}
use mathlib.Core.List.{map}
use mathlib.Core.Path.{◌≡◌, refl, sym, ap, ◌∙◌}
use Rattle.laws.proofs.SiteFacts.{SiteFacts, site_facts}
use Rattle.laws.proofs.StateFacts.{state_by, outflow_bound}
use Rattle.numbers.specs.Arrays.{first_places}
use Rattle.numbers.specs.Integers.{eq_ℤ}
use Rattle.numbers.specs.Interval.{Within}
use Rattle.numbers.proofs.Interval.{within_le}
use Rattle.numbers.proofs.Searches.{passed, seven, is_true}
use Rattle.numbers.specs.Sums.{sum}
use Rattle.quantities.proofs.Limits.{within_parts}
use Rattle.quantities.specs.Quantities.{within, within_ℤ, stress_limits, clock_limits, starting_water_limits, outflow_rate, outflow_within}
use Rattle.rules.specs.Record.{record_site, record_state, state_sound}
use Rattle.rules.specs.Step.{all_on_curve}
use Rattle.rules.specs.declared.record.Progress.{Progress}
use Rattle.rules.specs.declared.record.Record.{Record}
use Rattle.rules.specs.Layer.{skeleton}
use Rattle.layer_test.proofs.state_sound.Goals as goal
use Rattle.layer_test.proofs.state_sound.Lts as lts
use Rattle.layer_test.proofs.state_sound.Reads as reads
use Rattle.layer_test.proofs.state_sound.Tie as tie

-- what each test told
module _ (c : lts.After-all_on_curve tie.the-claims reads.Pre reads.Post tie.handed_clauses) where
  abbrev start : lts.Start tie.the-claims reads.Pre reads.Post tie.handed_clauses
  start = c.before.before.before.before.before.before.before.before.before

  abbrev r : Record
  r = start.args.r

  facts : SiteFacts r
  facts = site_facts r start.requires

  on_is : c.all_on_curve.result ≡ all_on_curve (skeleton (record_site r)) (record_site r).solids (map pos (record_state r).water)
  unfolding record_site record_state
  on_is = c.all_on_curve.ensures

pub all_on_curve-requires : goal.all_on_curve-requires
all_on_curve-requires c = let facts = site_facts c.args.r c.requires in record {
  elements_le_most = facts.header.elements_kept.most;
  by_index = (λ j h. (omega (arith, facts.sizes.solids_least j h), facts.sizes.water_most j h));
  least_le_points = (facts.header.compressibility_kept.least, facts.header.compressibility_kept.most);
  stress_value = facts.compressibility;
}

pub returns-then-not-all_on_curve : goal.returns-then-not-all_on_curve
returns-then-not-all_on_curve c = let f = c.before in sym (state_by (r f) (sym (on_is f) ∙ c.if-not-all_on_curve.true) refl refl refl refl refl refl)

module _ (c : lts.After-progress_sound tie.the-claims reads.Pre reads.Post tie.handed_clauses) where
  abbrev f₁ : lts.After-all_on_curve tie.the-claims reads.Pre reads.Post tie.handed_clauses
  f₁ = c.before.before

  abbrev r₁ : Record
  r₁ = r f₁

  abbrev p : Progress
  p = r₁.layer.progress

  abbrev starting : ℕ
  starting = r₁.layer.frame.starting_water

  on-true : all_on_curve (skeleton (record_site r₁)) (record_site r₁).solids (map pos (record_state r₁).water) ≡ true
  on-true = sym (on_is f₁) ∙ c.if-not-all_on_curve.false

  -- the tests of its numbers, and its balance
  abbrev limited : Bool
  limited =
      within_ℤ stress_limits p.load.0 && within clock_limits p.clock.0 && within starting_water_limits starting &&
      outflow_within p.top_outflow.0 p.clock.0 && outflow_within p.bottom_outflow.0 p.clock.0

  abbrev balance : (left : ℕ) → Bool
  balance left = eq_ℤ (pos starting) (pos left +ℤ p.top_outflow.0 +ℤ p.bottom_outflow.0)

  abbrev balanced : Bool
  balanced = balance (sum (first_places r₁.layer.frame.elements r₁.layer.water))

  by-numbers : {sound : Bool} → limited ≡ sound → state_sound r₁ ≡ (sound && balanced)
  unfolding record_state
  by-numbers e = state_by r₁ on-true refl refl refl refl refl refl ∙ ap (λ (sound : Bool). sound && balanced) e

pub returns-then-not-progress_sound : goal.returns-then-not-progress_sound
returns-then-not-progress_sound c = let f = c.before in sym (by-numbers f (sym f.progress_sound.ensures ∙ c.if-not-progress_sound.true))

-- the numbers keep their limits
module _ (c : lts.Else2 tie.the-claims reads.Pre reads.Post tie.handed_clauses) where
  abbrev f₂ : lts.After-progress_sound tie.the-claims reads.Pre reads.Post tie.handed_clauses
  f₂ = c.before

  limited-true : limited f₂ ≡ true
  limited-true = sym f₂.progress_sound.ensures ∙ c.if-not-progress_sound.false

  abbrev of : Progress
  of = p f₂

  numbers : (starting f₂ ≤ starting_water_limits.most) × (of.clock.0 ≤ clock_limits.most) × Within of.top_outflow.0 (outflow_rate * of.clock.0)
  numbers =
      let top = outflow_within of.top_outflow.0 of.clock.0 in
      let bottom = outflow_within of.bottom_outflow.0 of.clock.0 in
      let (_, _, _, timed, started, above, _) =
      seven true true (within_ℤ stress_limits of.load.0) (within clock_limits of.clock.0) (within starting_water_limits (starting f₂)) top bottom
      (passed limited-true) in (
        (within_parts starting_water_limits (starting f₂) started).1,
        (within_parts clock_limits of.clock.0 timed).1,
        outflow_bound of.top_outflow.0 of.clock.0 (is_true top above),
      )

pub total_water-requires : goal.total_water-requires
total_water-requires c = let facts = facts (f₁ (f₂ c.before)) in record {
  elements_le_most = facts.header.elements_kept.most;
  by_index = facts.sizes.water_most;
}

pub balances-requires : goal.balances-requires
balances-requires c = let (started, timed, above) = numbers c.before.before in record {
  starting_le_most = (started, c.total_water.ensures.1);
  within = within_le above (omega arith);
}

pub returns : goal.returns
returns c =
    let e = c.before.before.before in
    let told : c.balances.result ≡ balance (f₂ e) c.total_water.result = c.balances.ensures in
    told ∙ ap (balance (f₂ e)) c.total_water.ensures.0 ∙ sym (by-numbers (f₂ e) (limited-true e))
