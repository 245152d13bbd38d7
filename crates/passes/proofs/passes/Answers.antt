use Prim.Native.Nat.{ℕ, ◌+◌, ◌≤◌, ◌<◌}
use native.Mathlib.Omega.{arith}
use borrow.Author.Tests.{eq-eqb, ne_eqb}
use lib.Dec.{eqb}
use lib.IntN.{ℤ}
use lib.ListN.{length}
use mathlib.Core.Bool.{true, false}
use mathlib.Core.List.{List}
use mathlib.Core.Path.{◌≡◌, refl, sym, ap, ◌∙◌}
use Rattle.layer.proofs.SegmentsAt.{segments_length}
use Rattle.lent.proofs.Standing.{counted}
use Rattle.layer.specs.Held.{excess_at, resistance_at}
use Rattle.lent.specs.Worked.{held_in, WorkedOut}
use Rattle.rules.specs.Record.{soil_of, layer_of, record_of, is_layer}
use Rattle.rules.specs.declared.record.Progress.{Progress}
use Rattle.rules.specs.declared.record.Record.{Record}
use Rattle.std.specs.Prelude.{Ok}
use Rattle.pass.specs.Passing.{under_table, longest, passed, flows_turned}
use Rattle.pass.proofs.OnePass as law
use Rattle.pass.proofs.OnePass.{ending, flows_long, as_long}
use Rattle.pass.proofs.Reached.{Reached, begins, stands}
use Rattle.passes.proofs.passes.Goals as goal
use Rattle.passes.proofs.passes.Lts as lts
use Rattle.passes.proofs.passes.Reads as reads
use Rattle.passes.proofs.passes.Tie as tie

module _ (c : lts.Start tie.the-claims reads.Pre reads.Post goal.the-invariant-loop-now goal.the-decreases-loop-now tie.handed_clauses) where
  abbrev r : Record
  r =
      let a = c.args in
      record_of (soil_of a.counts a.void.now a.stress.now a.conductivity_void.now a.conductivity.now)
      (layer_of a.frame a.progress a.solids.now a.water.now a.table_time.now a.table_load.now)

  abbrev end : ℕ
  end = c.args.end

  abbrev budget : ℕ
  budget = c.args.budget

  is : is_layer r ≡ true
  is = c.requires.r_value

pub loop-now-init : goal.loop-now-init
loop-now-init c = (begins (r c) (is c) c.requires.water_len c.requires.clock_le_end.1 c.requires.clock_le_end.0, refl, refl, refl, refl, refl)

module _ (c : lts.At-loop tie.the-claims reads.Pre reads.Post goal.the-invariant-loop-now goal.the-decreases-loop-now tie.handed_clauses) where
  abbrev start : lts.Start tie.the-claims reads.Pre reads.Post goal.the-invariant-loop-now goal.the-decreases-loop-now tie.handed_clauses
  start = c.before

  abbrev clock : ℕ
  clock = c.loop-now.now.clock.0

  abbrev steps : ℕ
  steps = c.loop-now.steps

  abbrev at : Reached (r start) (end start) (budget start) c.loop-now.water c.loop-now.now steps
  at = c.loop-now.invariant.0

pub returns-then-steps-budget : goal.returns-then-steps-budget
returns-then-steps-budget c =
    let h = c.before.before.before.before in
    law.budget_used (at h) (ne_eqb (clock h) (end (start h)) c.loop-now-test.true) (omega (arith, c.if-steps-budget.true)) ∙
    ap (ending (r (start h)) h.loop-now.water) (sym c.ended.ensures)

module _ (c : lts.Else2 tie.the-claims reads.Pre reads.Post goal.the-invariant-loop-now goal.the-decreases-loop-now tie.handed_clauses) where
  abbrev head : lts.At-loop tie.the-claims reads.Pre reads.Post goal.the-invariant-loop-now goal.the-decreases-loop-now tie.handed_clauses
  head = c.before.before.before

  before-end : eqb (clock head) (end (start head)) ≡ false
  before-end = ne_eqb (clock head) (end (start head)) c.loop-now-test.true

  some_left : steps head < budget (start head)
  some_left = omega (arith, (at head).few, c.if-steps-budget.false)

-- what is worked out for the layer is the same for it at the head of the loop
worked : (h : lts.At-loop tie.the-claims reads.Pre reads.Post goal.the-invariant-loop-now goal.the-decreases-loop-now tie.handed_clauses) → let a = (start h).args in
    WorkedOut (law.here (at h)) a.burden.now a.sensitivity.now a.low.now a.high.now a.steepness
worked h =
    let w = (start h).requires.worked_out in
    record { burden_is = w.burden_is; sensitivity_is = w.sensitivity_is; low_is = w.low_is; high_is = w.high_is; steepness_is = w.steepness_is }

pub pass-requires : goal.pass-requires
pass-requires c = let e = c.before.before.before.before.before.before in
    let h = head e in
    let s = start h in
    let inv = h.loop-now.invariant in record {
      r_value = stands (at h);
      clock_lt_end = (omega (arith, (at h).early, e.loop-now-test.true), s.requires.clock_le_end.1);
      worked_out = worked h;
      water_len = (inv.0.long, inv.1, inv.2, inv.3, inv.4, inv.5);
    }

module _ (c : lts.After-pass tie.the-claims reads.Pre reads.Post goal.the-invariant-loop-now goal.the-decreases-loop-now tie.handed_clauses) where
  abbrev e : lts.Else2 tie.the-claims reads.Pre reads.Post goal.the-invariant-loop-now goal.the-decreases-loop-now tie.handed_clauses
  e = c.before.before.before.before.before.before.before

  abbrev h : lts.At-loop tie.the-claims reads.Pre reads.Post goal.the-invariant-loop-now goal.the-decreases-loop-now tie.handed_clauses
  h = head e

  abbrev s : lts.Start tie.the-claims reads.Pre reads.Post goal.the-invariant-loop-now goal.the-decreases-loop-now tie.handed_clauses
  s = start h

  -- the layer at the head of the loop
  abbrev here : Record
  here = law.here (at h)

  abbrev elements : ℕ
  elements = (r s).layer.frame.elements

  abbrev water : List ℕ
  water = c.pass.new.water

  moved : water ≡ (passed here (end s)).layer.water
  moved = c.pass.ensures.water_after

  few : elements ≤ 128
  few = (counted (r s) (is s)).1

  -- the arrays that it fills are as long as they were
  abbrev excess : List ℤ
  excess = c.pass.new.excess

  abbrev resistance : List ℕ
  resistance = c.pass.new.resistance

  abbrev above : List ℤ
  above = c.pass.new.above

  abbrev stress_segment : List ℕ
  stress_segment = c.pass.new.stress_segment

  abbrev conductivity_segment : List ℕ
  conductivity_segment = c.pass.new.conductivity_segment

  long-excess : length excess ≡ 128
  long-excess = as_long h.loop-now.excess {array' = excess} elements (excess_at (held_in (under_table here))) c.pass.ensures.excess_after few h.loop-now.invariant.1

  long-resistance : length resistance ≡ 128
  long-resistance = as_long h.loop-now.resistance {array' = resistance} elements (resistance_at (held_in (under_table here))) c.pass.ensures.resistance_after few h.loop-now.invariant.2

  long-above : length above ≡ 128
  long-above =
      ap (λ (l : List ℤ). length l) {x = above} {y = flows_turned (under_table here) (longest here (end s)) h.loop-now.above} c.pass.ensures.above_after ∙
      flows_long (under_table here) (longest here (end s)) h.loop-now.above few h.loop-now.invariant.3

  long-stress : length stress_segment ≡ 128
  long-stress = segments_length {before = h.loop-now.stress_segment} {after = stress_segment} c.pass.ensures.segments h.loop-now.invariant.4 few

  long-conductivity : length conductivity_segment ≡ 128
  long-conductivity = segments_length {before = h.loop-now.conductivity_segment} {after = conductivity_segment} c.pass.ensures.segments_2 h.loop-now.invariant.5 few

-- a stop
pub returns-in-Err : goal.returns-in-Err
returns-in-Err c =
    let b = c.before.before.before in
    law.pass_stops (at (h b)) (before-end (e b)) (some_left (e b)) (moved b) c.in-Err.stopped (sym c.in-Err.is ∙ b.pass.ensures.value) ∙
    ap (ending (r (s b)) (water b)) (sym c.ended-in-Err.ensures)

-- a step
module _ (a : lts.After-pass tie.the-claims reads.Pre reads.Post goal.the-invariant-loop-now goal.the-decreases-loop-now tie.handed_clauses)
    (after : Progress) (gave : a.pass.result ≡ Ok after) where
  goes_on : Reached (r (s a)) (end (s a)) (budget (s a)) (water a) after (steps (h a) + 1)
  goes_on = law.pass_goes (at (h a)) (before-end (e a)) (some_left (e a)) (moved a) after (sym gave ∙ a.pass.ensures.value)

pub overflow_add-steps : goal.overflow_add-steps
overflow_add-steps c = let f = c.before.before in omega (arith, some_left (e f), (s f).requires.clock_le_end.2)

pub loop-now-smaller : goal.loop-now-smaller
loop-now-smaller c = omega (arith, some_left (e c.before.before))

pub loop-now-preserved : goal.loop-now-preserved
loop-now-preserved c =
    let f = c.before.before in
    (goes_on f c.in-Ok.after c.in-Ok.is, long-excess f, long-resistance f, long-above f, long-stress f, long-conductivity f)

pub returns : goal.returns
returns c =
    let h = c.before.before.before in
    law.at_end (at h) (eq-eqb (clock h) (end (start h)) c.loop-now-test.false) ∙
    ap (ending (r (start h)) h.loop-now.water) (sym c.ended-2.ensures)
