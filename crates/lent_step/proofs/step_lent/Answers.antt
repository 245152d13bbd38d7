use mathlib.Core.Bool.{true}
use mathlib.Core.Path.{◌≡◌, refl}
use Rattle.lent.proofs.LayerReads.{stands_held}
use Rattle.lent.proofs.Standing.{counted, weighted, solid, soil}
use Rattle.numbers.specs.Arrays.{zeros}
use Rattle.rules.specs.Record.{soil_of, layer_of, record_of, is_layer}
use Rattle.rules.specs.declared.record.Record.{Record}
use Rattle.lent_step.specs.Read.{ReadAs}
use Rattle.lent_step.proofs.step_lent.Goals as goal
use Rattle.lent_step.proofs.step_lent.Lts as lts
use Rattle.lent_step.proofs.step_lent.Reads as reads
use Rattle.lent_step.proofs.step_lent.Tie as tie

module _ (s : lts.Start tie.the-claims reads.Pre reads.Post tie.handed_clauses) where
  abbrev r : Record
  r =
      let a = s.args in
      record_of (soil_of a.counts a.void.now a.stress.now a.conductivity_void.now a.conductivity.now)
      (layer_of a.frame a.progress a.solids.now a.water.now a.table_time.now a.table_load.now)

  abbrev is : is_layer r ≡ true
  is = s.requires.r_value

pub prepare-steepness-requires : goal.prepare-steepness-requires
prepare-steepness-requires c = let s = c.before.before.before in
    let curves = soil (r s) (is s) in record {
      elements_le_most = (counted (r s) (is s)).1;
      by_index = solid (r s) (is s);
      least_le_points = (curves.compressibility_few, curves.compressibility_many, curves.compressibility_is_sound);
      sensitivity_len = (refl, refl, refl);
    }

pub read_layer-requires : goal.read_layer-requires
read_layer-requires c = let s = c.before.before.before.before.before.before.before.before in record {
  stands = stands_held (r s) (is s);
  elements_le_most = (counted (r s) (is s)).1;
  least_le_gravity = weighted (r s) (is s);
  excess_len = (refl, refl);
}

-- the layer is set up and read
module _ (c : lts.After-read_layer tie.the-claims reads.Pre reads.Post tie.handed_clauses) where
  abbrev set-up : lts.After-prepare tie.the-claims reads.Pre reads.Post tie.handed_clauses
  set-up = c.before.before.before.before

  abbrev s₁ : lts.Start tie.the-claims reads.Pre reads.Post tie.handed_clauses
  s₁ = set-up.before.before.before.before

  read :
      ReadAs (r s₁) s₁.args.frame s₁.args.progress set-up.prepare-steepness.result set-up.prepare-steepness.new.sensitivity set-up.prepare-steepness.new.low set-up.prepare-steepness.new.high
      c.read_layer.new.excess c.read_layer.new.resistance s₁.args.water.now
  unfolding zeros
  read = record {
    is = is s₁;
    frame_is = refl;
    progress_is = refl;
    water_is = refl;
    steepness_is = set-up.prepare-steepness.ensures.value;
    sensitivity_is = set-up.prepare-steepness.ensures.sensitivity_after;
    low_is = set-up.prepare-steepness.ensures.low_after;
    high_is = set-up.prepare-steepness.ensures.high_after;
    excess_is = c.read_layer.ensures.excess_after;
    resistance_is = c.read_layer.ensures.resistance_after;
  }

pub step_read-requires : goal.step_read-requires
step_read-requires c = let f = c.before.before.before.before.before.before in record {
  some_read = record { r = r (s₁ f); read = read f };
  t_value = (s₁ f).requires.t_value;
  water_len = (s₁ f).requires.water_len;
}

pub returns : goal.returns
returns c =
    let f = c.before.before.before.before.before.before.before in
    c.step_read.ensures (r (s₁ f)) (read f)
