use Prim.Native.Nat.{ℕ, ◌+◌, ◌*◌, ◌≤◌}
use native.Mathlib.Omega.{arith}
use lib.IntN.{pos, ◌-ℤ◌}
use lib.ListN.{length}
use lib.Seq.{sets, length-sets}
use mathlib.Core.Bool.{true}
use mathlib.Core.Path.{◌≡◌, ap, ◌∙◌}
use mir.Syntax.{w64}
use mir.Val.{SFits}
use Rattle.lent.proofs.Standing.{site_is, state_is, counted, soil}
use Rattle.lent.proofs.StepLaws.{on_soil_as}
use Rattle.numbers.proofs.Signed.{read_back}
use Rattle.result.proofs.ResultLaws.{gone, headed, result_stored}
use Rattle.quantities.proofs.Limits.{inside_signed}
use Rattle.quantities.specs.Quantities.{level_limits}
use Rattle.rules.specs.Record.{soil_of, layer_of, record_of, is_layer}
use Rattle.rules.specs.Result.{result_size}
use Rattle.rules.specs.declared.record.Record.{Record}
use Rattle.result.proofs.write_lent.Goals as goal
use Rattle.result.proofs.write_lent.Lts as lts
use Rattle.result.proofs.write_lent.Reads as reads
use Rattle.result.proofs.write_lent.Tie as tie

module _ (s : lts.Start tie.the-claims reads.Pre reads.Post tie.handed_clauses) where
  -- the layer
  abbrev r : Record
  r =
      record_of
      (soil_of s.args.counts s.args.void.now s.args.stress.now s.args.conductivity_void.now s.args.conductivity.now)
      (layer_of s.args.frame s.args.ended.progress s.args.solids.now s.args.water.now s.args.table_time.now
      s.args.table_load.now)

  abbrev is : is_layer r ≡ true
  is = s.requires.r_value

  -- there is room for its result
  room : 56 + 40 * s.args.frame.elements ≤ length s.args.out.now
  unfolding result_size
  room = s.requires.burden_value.1

pub total_water-requires : goal.total_water-requires
total_water-requires c = let s = c.before.before.before.before.before in record {
  elements_le_most = (counted (r s) (is s)).1;
  by_index = (site_is (r s) (is s)).sizes.water_most;
}

pub settlement-settlement-requires : goal.settlement-settlement-requires
settlement-settlement-requires c =
    let s = c.before.before.before.before.before.before in ((state_is (r s) (is s)).starting_most, c.total_water.ensures.1)

pub write_head-requires : goal.write_head-requires
write_head-requires c = let s = c.before.before.before.before.before.before.before in record {
  in_bounds = (omega (arith, room s), (counted (r s) (is s)).1);
  pos_bound = (state_is (r s) (is s)).load_between.0;
}

pub write_elements-requires : goal.write_elements-requires
write_elements-requires c = let s = c.before.before.before.before.before.before.before.before.before.before.before in
    let level = (site_is (r s) (is s)).sizes.top_level_kept in
    let long : length c.write_head.new.out ≡ length s.args.out.now = ap length c.write_head.ensures ∙ simp length-sets in record {
      elements_le_most = ((counted (r s) (is s)).1, rw long (room s));
      top_level_value = inside_signed level_limits s.args.frame.top_level.0 level.0 level.1;
      least_le_points = ((soil (r s) (is s)).compressibility_few, (soil (r s) (is s)).compressibility_many);
      stress_value = (soil (r s) (is s)).compressibility_is_sound;
      by_index = on_soil_as (r s) (is s) s.requires.burden_value.0;
    }

-- the settlement, and the head as it is stored
gone-is : (c : lts.After-settlement tie.the-claims reads.Pre reads.Post tie.handed_clauses) → let s = c.before.before.before.before.before.before in
    c.settlement-settlement.result ≡ gone (r s)
gone-is c =
    c.settlement-settlement.ensures ∙ ap (λ (left : ℕ). pos c.args.frame.starting_water -ℤ pos left) c.total_water.ensures.0

head-stored : (c : lts.After-write_head tie.the-claims reads.Pre reads.Post tie.handed_clauses) → let s = c.before.before.before.before.before.before.before.before in
    c.write_head.new.out ≡ sets s.args.out.now 0 (headed (r s) s.args.ended.stop s.args.ended.steps)
head-stored c =
    let g = c.before.before in
    let fits : SFits w64 g.settlement-settlement.result = record { sfits = g.settlement-settlement.type_inv } in
    rw (← gone-is g) (simp (read_back fits) at c.write_head.ensures)

pub returns : goal.returns
returns c =
    let h = c.before.before.before.before.before.before.before in
    let s = h.before.before.before.before.before.before.before.before in
    result_stored (r s) s.args.ended.stop s.args.ended.steps s.args.burden.now s.args.out.now _ _ s.requires.burden_value.0
    s.requires.burden_value.1 (head-stored h) c.write_elements.ensures
