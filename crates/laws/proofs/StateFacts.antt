-- What a sound state says of a record.
use Prim.Native.Nat.{ℕ, ◌*◌, ◌≤◌}
use lib.Dec.{leb→le}
use lib.IntN.{ℤ, pos, nat_abs, ◌+ℤ◌}
use mathlib.Core.Bool.{Bool, true, ◌&&◌}
use mathlib.Core.List.{map}
use mathlib.Core.Path.{◌≡◌, refl}
use Rattle.laws.specs.Amid.{Between}
use Rattle.numbers.proofs.Equality.{eqℤ→eq}
use Rattle.numbers.specs.Integers.{eq_ℤ}
use Rattle.numbers.specs.Interval.{Within}
use Rattle.numbers.proofs.Searches.{passed, seven, is_true}
use Rattle.numbers.specs.Sums.{sum}
use Rattle.quantities.proofs.Limits.{within_parts}
use Rattle.quantities.specs.Quantities.{within, within_ℤ, stress_limits, clock_limits, starting_water_limits, outflow_rate, outflow_within}
use Rattle.rules.specs.Record.{record_site, record_state, state_sound}
use Rattle.rules.specs.Step.{all_on_curve}
use Rattle.rules.specs.declared.record.Record.{Record}
use Rattle.rules.specs.Layer.{skeleton}
use Rattle.laws.proofs.Sizes.{signed_between}

-- a sound state by the tests of its parts
pub state_by : (r : Record) {a b c d e f g : Bool} →
    all_on_curve (skeleton (record_site r)) (record_site r).solids (map pos (record_state r).water) ≡ a →
    within_ℤ stress_limits (record_state r).load ≡ b → within clock_limits (record_state r).clock ≡ c →
    within starting_water_limits r.layer.frame.starting_water ≡ d → outflow_within (record_state r).top_outflow (record_state r).clock ≡ e →
    outflow_within (record_state r).bottom_outflow (record_state r).clock ≡ f →
    eq_ℤ (pos r.layer.frame.starting_water) (pos (sum (record_state r).water) +ℤ (record_state r).top_outflow +ℤ (record_state r).bottom_outflow) ≡ g →
    state_sound r ≡ (a && b && c && d && e && f && g)
unfolding state_sound
state_by r e₁ e₂ e₃ e₄ e₅ e₆ e₇ = rw (e₁, e₂, e₃, e₄, e₅, e₆, e₇) refl

-- an outflow that keeps its bound
pub outflow_bound : (outflow : ℤ) (clock : ℕ) → outflow_within outflow clock ≡ true → Within outflow (outflow_rate * clock)
unfolding outflow_within
outflow_bound outflow clock e = record { bound = leb→le (nat_abs outflow) (outflow_rate * clock) (passed e) }

-- what a sound state says
pub record StateFacts (r : Record) : Type 0 where
  pub is_on_curve : all_on_curve (skeleton (record_site r)) (record_site r).solids (map pos (record_state r).water) ≡ true
  pub load_between : Between (pos 0) (pos stress_limits.most) r.layer.progress.load.0
  pub clock_most : r.layer.progress.clock.0 ≤ clock_limits.most
  pub starting_most : r.layer.frame.starting_water ≤ starting_water_limits.most
  pub top_bound : Within r.layer.progress.top_outflow.0 (outflow_rate * r.layer.progress.clock.0)
  pub bottom_bound : Within r.layer.progress.bottom_outflow.0 (outflow_rate * r.layer.progress.clock.0)
  pub balance : pos r.layer.frame.starting_water ≡ pos (sum (record_state r).water) +ℤ r.layer.progress.top_outflow.0 +ℤ r.layer.progress.bottom_outflow.0

pub state_facts : (r : Record) → state_sound r ≡ true → StateFacts r
unfolding state_sound record_state
state_facts r e =
    let site = record_site r in
    let s = record_state r in
    let a = all_on_curve (skeleton site) site.solids (map pos s.water) in
    let b = within_ℤ stress_limits s.load in
    let c = within clock_limits s.clock in
    let d = within starting_water_limits r.layer.frame.starting_water in
    let t = outflow_within s.top_outflow s.clock in
    let u = outflow_within s.bottom_outflow s.clock in
    let g = eq_ℤ (pos r.layer.frame.starting_water) (pos (sum s.water) +ℤ s.top_outflow +ℤ s.bottom_outflow) in
    let (on, loaded, timed, starting, top, bottom, balanced) = seven a b c d t u g (passed e) in
    record {
      is_on_curve = is_true a on;
      load_between = signed_between stress_limits s.load loaded;
      clock_most = (within_parts clock_limits s.clock timed).1;
      starting_most = (within_parts starting_water_limits r.layer.frame.starting_water starting).1;
      top_bound = outflow_bound s.top_outflow s.clock (is_true t top);
      bottom_bound = outflow_bound s.bottom_outflow s.clock (is_true u bottom);
      balance = eqℤ→eq _ _ balanced;
    }
