use lib.IntN.{pos}
use lib.ListN.{replicate}
use mathlib.Core.List.{[]}
use mathlib.Core.Path.{refl, ◌∙◌}
use Rattle.lent.proofs.LayerReads.{stands_held, readable}
use Rattle.lent.proofs.Standing.{site_is, counted, weighted}
use Rattle.numbers.specs.Arrays.{zeros}
use Rattle.record_flows.proofs.LayerFaces.{faces_count, flows_as, remainders_as}
use Rattle.record_flows.proofs.divide_layer.Goals as goal

pub read_layer-requires : goal.read_layer-requires
read_layer-requires c = let r = c.args.r in
    let is = c.requires.r_value in record {
      stands = stands_held r is;
      elements_le_most = (counted r is).1;
      least_le_gravity = weighted r is;
      excess_len = (refl, refl);
    }

pub divide_faces-requires : goal.divide_faces-requires
divide_faces-requires c = let r = c.args.r in
    let is = c.requires.r_value in
    let read = c.read_layer.ensures in record {
      elements_nonzero = counted r is;
      held_within = ((site_is r is).top_held, (site_is r is).bottom_held);
      t_le_most = c.requires.t_le_most;
      readable = rw (read.excess_after, read.resistance_after) (readable r is _ _);
      bottom_in_bounds = c.requires.r_in_bounds;
    }

pub returns : goal.returns
unfolding zeros
returns c = let r = c.args.r in
    let is = c.requires.r_value in
    let read = c.read_layer.ensures in
    let told = c.divide_faces.ensures in record {
      value = told.value ∙ faces_count r is [] [];
      flows_after = flows_as r is (replicate 128 (pos 0)) (zeros 128) read.excess_after read.resistance_after c.args.flows.now c.args.t told.flows_after;
      remainders_after = remainders_as r is (replicate 128 (pos 0)) (zeros 128) read.excess_after read.resistance_after c.args.remainders.now c.args.t told.remainders_after;
    }
