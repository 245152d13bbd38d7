use Prim.Native.Nat.{ℕ, ◌-◌, ◌≤◌, min}
use native.Mathlib.Omega.{arith}
use borrow.Author.Tests.{ne_eqb}
use lib.Dec.{eqb}
use lib.IntN.{ℤ}
use mathlib.Core.Bool.{true, false, not}
use mathlib.Core.List.{List}
use mathlib.Core.Path.{◌≡◌, sym, ap, subst, ◌∙◌}
use Rattle.layer.specs.Held.{Held, held_of, excess_at, Stands}
use Rattle.layer_step.specs.declared.Taken.{Taken}
use Rattle.lent.specs.Progress.{loaded, later}
use Rattle.lent.proofs.LayerReads.{stands_held}
use Rattle.lent.proofs.Standing.{site_is, counted}
use Rattle.lent.specs.Worked.{held_in, WorkedOut, excesses_in, resistances_in}
use Rattle.numbers.specs.Arrays.{filled}
use Rattle.numbers.specs.Lists.{greatest}
use Rattle.rules.specs.Layer.{Site}
use Rattle.rules.specs.Load.{load_at, next_time, with_load}
use Rattle.quantities.specs.Quantities.{step_limits, pressure}
use Rattle.rules.specs.Record.{soil_of, layer_of, record_of, record_site, record_state, is_layer}
use Rattle.rules.specs.Run.{longest_reach, longest_step}
use Rattle.rules.specs.Step.{too_long}
use Rattle.rules.specs.declared.record.Progress.{Progress}
use Rattle.rules.specs.declared.record.Record.{Record}
use Rattle.pass.specs.Passing as passing
use Rattle.pass.specs.Passing.{under_table, longest, flows_turned}
use Rattle.std.specs.Prelude.{Ok}
use Rattle.pass.proofs.OnePass as law
use Rattle.pass.proofs.OnePass.{next_reaches}
use Rattle.pass.proofs.Reached.{Reached, begins, outflows_fit}
use Rattle.pass.proofs.Turned.{gives, steepness_ranged, limited_now, readable_now, waters, turn_is}
use Rattle.pass.proofs.pass.Goals as goal
use Rattle.pass.proofs.pass.Lts as lts
use Rattle.pass.proofs.pass.Reads as reads
use Rattle.pass.proofs.pass.Tie as tie

module _ (c : lts.Start tie.the-claims reads.Pre reads.Post tie.handed_clauses) where
  abbrev r : Record
  r =
      let a = c.args in
      record_of (soil_of a.counts a.void.now a.stress.now a.conductivity_void.now a.conductivity.now)
      (layer_of a.frame a.progress a.solids.now a.water.now a.table_time.now a.table_load.now)

  abbrev site : Site
  site = record_site r

  abbrev end : ℕ
  end = c.args.end

  abbrev clock : ℕ
  clock = c.args.progress.clock.0

  is : is_layer r ≡ true
  is = c.requires.r_value

  not_late : clock ≤ end
  not_late = omega (arith, c.requires.clock_lt_end.0)

  before-end : eqb clock end ≡ false
  before-end = ne_eqb clock end (omega (arith, c.requires.clock_lt_end.0))

  -- it begins a run of one step
  at : Reached r end 1 r.layer.water r.layer.progress 0
  at = begins r is c.requires.water_len.0 c.requires.clock_lt_end.1 not_late

pub load_at-load-requires : goal.load_at-load-requires
load_at-load-requires c = let facts = site_is (r c) (is c) in record {
  least_le_table_points = (facts.header.table_kept.least, facts.header.table_kept.most);
  load_value = facts.table;
}

module _ (c : lts.After-loaded tie.the-claims reads.Pre reads.Post tie.handed_clauses) where
  abbrev s : lts.Start tie.the-claims reads.Pre reads.Post tie.handed_clauses
  s = c.before.before

  load_is : c.load_at-load.result ≡ pressure (load_at (site s).load_table (clock s))
  unfolding record_site
  load_is = c.load_at-load.ensures.value

  abbrev under : Record
  under = under_table (r s)

  under-is : c.loaded-under.result ≡ under.layer.progress
  under-is = c.loaded-under.ensures ∙ ap (loaded s.args.progress) load_is

  is-under : is_layer under ≡ true
  is-under = law.under_stands (at s)

  worked : WorkedOut under s.args.burden.now s.args.sensitivity.now s.args.low.now s.args.high.now s.args.steepness
  worked =
      let w = s.requires.worked_out in
      record { burden_is = w.burden_is; sensitivity_is = w.sensitivity_is; low_is = w.low_is; high_is = w.high_is; steepness_is = w.steepness_is }

  -- the layer as it is lent to be read
  abbrev held : (load : ℤ) (burden : List ℕ) → Held
  held p b = held_of under.soil under.layer.frame.elements p b under.layer.solids under.layer.water

  held-is : held c.loaded-under.result.load.0 s.args.burden.now ≡ held_in under
  held-is =
      ap (λ (p : Progress). held p.load.0 s.args.burden.now) under-is ∙
      ap (held under.layer.progress.load.0) worked.burden_is

pub read_elements-requires : goal.read_elements-requires
read_elements-requires c = let g = c.before.before.before.before.before in
    let long = (s g).requires.water_len in record {
      elements_le_most = (counted (r (s g)) (is (s g))).1;
      stands = subst Stands (sym (held-is g)) (stands_held (under g) (is-under g));
      excess_len = (long.1, long.2, long.4, long.5);
    }

module _ (c : lts.After-read_elements tie.the-claims reads.Pre reads.Post tie.handed_clauses) where
  abbrev g : lts.After-loaded tie.the-claims reads.Pre reads.Post tie.handed_clauses
  g = c.before.before.before.before.before.before

  abbrev s₁ : lts.Start tie.the-claims reads.Pre reads.Post tie.handed_clauses
  s₁ = s g

  excess_is : c.read_elements.new.excess ≡ excesses_in (under g) s₁.args.excess.now
  excess_is = c.read_elements.ensures.excess_after ∙ ap (λ (h : Held). filled s₁.args.excess.now s₁.args.frame.elements (excess_at h)) (held-is g)

  resistance_is : c.read_elements.new.resistance ≡ resistances_in (under g) s₁.args.resistance.now
  resistance_is = c.read_elements.ensures.resistance_after

pub next_time-next-requires : goal.next_time-next-requires
next_time-next-requires c = let s = s₁ c in (site_is (r s) (is s)).header.table_kept.most

module _ (c : lts.After-min tie.the-claims reads.Pre reads.Post tie.handed_clauses) where
  abbrev opened : lts.Start tie.the-claims reads.Pre reads.Post tie.handed_clauses
  opened = s₁ c.before.before

  nearer-is : c.min.result ≡ min (end opened) (next_time (site opened).load_table (clock opened) (end opened))
  unfolding record_site
  nearer-is = c.min.ensures ∙ ap (min (end opened)) (c.next_time-next.ensures (r opened).layer.table_load)

  not-before : clock opened ≤ c.min.result
  not-before =
      let early = not_late opened in
      omega (arith, nearer-is, next_reaches (site opened).load_table (clock opened) (end opened) early)

pub overflow_sub-min : goal.overflow_sub-min
overflow_sub-min c = not-before c

module _ (c : lts.After-min2 tie.the-claims reads.Pre reads.Post tie.handed_clauses) where
  abbrev f₁ : lts.After-read_elements tie.the-claims reads.Pre reads.Post tie.handed_clauses
  f₁ = c.before.before.before

  abbrev s₂ : lts.Start tie.the-claims reads.Pre reads.Post tie.handed_clauses
  s₂ = s₁ f₁

  abbrev most : ℕ
  most = c.min-most.result

  reach-is : most ≡ longest_reach (site s₂) (end s₂) (clock s₂)
  unfolding longest_reach
  reach-is = c.min-most.ensures ∙ ap (λ (z : ℕ). min step_limits.most (z - clock s₂)) (nearer-is c.before)

  reach-most : most ≤ step_limits.most
  reach-most = rw c.min-most.ensures (omega arith)

  -- the longest step within reach
  longest_is : greatest most (λ t. not (too_long (record_site (under (g f₁))) (record_state (under (g f₁))) t)) ≡ longest (r s₂) (end s₂)
  unfolding longest_step record_site record_state
  longest_is = ap (λ (z : ℕ). greatest z (λ t. not (too_long (record_site (under (g f₁))) (record_state (under (g f₁))) t))) reach-is

pub advance_longest-requires : goal.advance_longest-requires
advance_longest-requires c = let l = c.before.before in
    let f = f₁ l in
    let u = under (g f) in
    let stands = is-under (g f) in
    let facts = site_is (r (s₁ f)) (is (s₁ f)) in
    let ranged = steepness_ranged u stands _ _ (excess_is f) (resistance_is f) (worked (g f)) in
    let long = (s₁ f).requires.water_len in record {
      elements_nonzero = counted (r (s₁ f)) (is (s₁ f));
      held_within = (facts.top_held, facts.bottom_held, reach-most l);
      steepness_nonzero = (ranged.0, ranged.1, limited_now u stands _ _ (excess_is f) (resistance_is f) (worked (g f)));
      readable = readable_now u stands _ _ (excess_is f) (resistance_is f) (worked (g f));
      by_index = waters u stands _ _ (excess_is f) (resistance_is f) (worked (g f));
      above_len = (long.3, long.0);
    }

module _ (c : lts.After-advance_longest tie.the-claims reads.Pre reads.Post tie.handed_clauses) where
  abbrev reached : lts.After-min2 tie.the-claims reads.Pre reads.Post tie.handed_clauses
  reached = c.before.before.before

  abbrev f : lts.After-read_elements tie.the-claims reads.Pre reads.Post tie.handed_clauses
  f = f₁ reached

  abbrev start : lts.Start tie.the-claims reads.Pre reads.Post tie.handed_clauses
  start = s₁ f

  abbrev water : List ℕ
  water = c.advance_longest.new.water

  same :
      (c.advance_longest.result ≡ gives (under (g f)) (passing.found (r start) (end start))) ×
      (water ≡ (passing.passed (r start) (end start)).layer.water) ×
      (c.advance_longest.new.above ≡ flows_turned (under (g f)) (longest (r start) (end start)) start.args.above.now)
  same =
      let law = turn_is (under (g f)) (is-under (g f)) start.args.excess.now start.args.resistance.now (excess_is f) (resistance_is f) (worked (g f)) (most reached) start.args.above.now (longest_is reached) in
      (c.advance_longest.ensures.value ∙ law.0, c.advance_longest.ensures.water_after ∙ law.1, c.advance_longest.ensures.above_after ∙ law.2)

pub returns-in-Err : goal.returns-in-Err
returns-in-Err c = let a = c.before in
    let read = (f a).read_elements.ensures in record {
      value = law.gives_stop (at (start a)) (under-is (g (f a))) c.in-Err.stop (sym c.in-Err.is ∙ (same a).0);
      water_after = (same a).1;
      above_after = (same a).2;
      excess_after = excess_is (f a);
      resistance_after = resistance_is (f a);
      segments = read.segments;
      segments_2 = read.segments_2;
    }

-- a step
module _ (a : lts.After-advance_longest tie.the-claims reads.Pre reads.Post tie.handed_clauses) (taken : Taken)
    (gave : a.advance_longest.result ≡ Ok taken) where
  told : Ok taken ≡ gives (under (g (f a))) (passing.found (r (start a)) (end (start a)))
  told = sym gave ∙ (same a).0

  abbrev after : Progress
  after = later (g (f a)).loaded-under.result taken.seconds taken.flows.bottom taken.flows.top

  stepping : Reached (r (start a)) (end (start a)) 1 (water a) after 1
  unfolding record_site record_state with_load
  stepping =
      rw (law.later_is (at (start a)) taken told (under-is (g (f a))))
      (law.goes_on (at (start a)) (before-end (start a)) (omega arith) (same a).1 taken.seconds (law.went (at (start a)) taken told))

pub later-requires-clause-t_bound : goal.later-requires-clause-t_bound
later-requires-clause-t_bound c =
    let s = stepping c.before.before c.in-Ok.taken c.in-Ok.is in
    omega (arith, s.early, s.late)

pub later-requires-clause-sfits : goal.later-requires-clause-sfits
later-requires-clause-sfits c = outflows_fit (stepping c.before.before c.in-Ok.taken c.in-Ok.is)

pub returns-in-Ok : goal.returns-in-Ok
returns-in-Ok c =
    let v = c.before.before.before in
    let read = (f v).read_elements.ensures in record {
      value = ap Ok c.later.ensures ∙ law.gives_step (at (start v)) c.in-Ok.taken (told v c.in-Ok.taken c.in-Ok.is) (under-is (g (f v)));
      water_after = (same v).1;
      above_after = (same v).2;
      excess_after = excess_is (f v);
      resistance_after = resistance_is (f v);
      segments = read.segments;
      segments_2 = read.segments_2;
    }
