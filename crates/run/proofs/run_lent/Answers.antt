use native.Mathlib.Omega.{arith}
use borrow.Author.Tests.{eq-eqb, ne_eqb}
use mathlib.Core.Bool.{true}
use mathlib.Core.Path.{◌≡◌, refl, sym, ap, ◌∙◌}
use Rattle.lent.proofs.Standing.{counted, solid, soil}
use Rattle.numbers.specs.Arrays.{zeros}
use Rattle.rules.specs.Record.{soil_of, layer_of, record_of, is_layer}
use Rattle.rules.specs.declared.record.Record.{Record}
use Rattle.pass.proofs.OnePass as law
use Rattle.pass.proofs.OnePass.{ending}
use Rattle.pass.proofs.Reached.{Reached, begins}
use Rattle.run.proofs.run_lent.Goals as goal
use Rattle.run.proofs.run_lent.Lts as lts
use Rattle.run.proofs.run_lent.Reads as reads
use Rattle.run.proofs.run_lent.Tie as tie

module _ (c : lts.Start tie.the-claims reads.Pre reads.Post tie.handed_clauses) where
  abbrev r : Record
  r =
      let a = c.args in
      record_of (soil_of a.counts a.void.now a.stress.now a.conductivity_void.now a.conductivity.now)
      (layer_of a.frame a.progress a.solids.now a.water.now a.table_time.now a.table_load.now)

  is : is_layer r ≡ true
  is = c.requires.r_value

  -- no pass is taken yet
  begun : Reached r c.args.end c.args.budget c.args.water.now c.args.progress 0
  begun = begins r is c.requires.water_len.0 c.requires.clock_le_end.1 c.requires.clock_le_end.0

pub returns-then-progress-end : goal.returns-then-progress-end
returns-then-progress-end c =
    let s = c.before.before.before in
    law.at_end (begun s) (eq-eqb _ _ c.if-progress-end.true) ∙ ap (ending (r s) s.args.water.now) (sym c.ended.ensures)

pub returns-then-budget-eq0 : goal.returns-then-budget-eq0
returns-then-budget-eq0 c =
    let s = c.before.before.before.before in
    law.budget_used (begun s) (ne_eqb _ _ c.if-progress-end.false) (omega (arith, c.if-budget-eq0.true)) ∙
    ap (ending (r s) s.args.water.now) (sym c.ended-then-budget-eq0.ensures)

pub prepare-steepness-requires : goal.prepare-steepness-requires
prepare-steepness-requires c = let s = c.before.before.before.before.before.before in
    let curves = soil (r s) (is s) in record {
      elements_le_most = (counted (r s) (is s)).1;
      by_index = solid (r s) (is s);
      least_le_points = (curves.compressibility_few, curves.compressibility_many, curves.compressibility_is_sound);
      sensitivity_len = (refl, refl, refl);
    }

pub passes-requires : goal.passes-requires
unfolding zeros
passes-requires c = let s = c.before.before.before.before.before.before.before.before.before.before.before in
    let gave = c.prepare-steepness.ensures in record {
      r_value = is s;
      clock_le_end = s.requires.clock_le_end;
      worked_out = record { burden_is = s.requires.water_len.1; sensitivity_is = gave.sensitivity_after; low_is = gave.low_after; high_is = gave.high_after; steepness_is = gave.value };
      water_len = s.requires.water_len.0;
    }
