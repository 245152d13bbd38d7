use native.Mathlib.Omega.{arith}
use lib.IntN.{pos}
use lib.ListN.{replicate}
use mathlib.Core.List.{[]}
use mathlib.Core.Path.{refl, ◌∙◌}
use Rattle.lent.proofs.LayerReads.{stands_held, readable}
use Rattle.lent.proofs.Standing.{site_is, counted, weighted}
use Rattle.numbers.specs.Arrays.{zeros}
use Rattle.record_flows.proofs.LayerFaces.{faces_count}
use Rattle.working.proofs.LayerWords.{few_faces, n, top, bottom, faces_stored}
use Rattle.working.proofs.put_layer_faces.Goals as goal

pub read_layer-requires : goal.read_layer-requires
read_layer-requires c = let r = c.args.r in
    let is = c.requires.r_value in record {
      stands = stands_held r is;
      elements_le_most = (counted r is).1;
      least_le_gravity = weighted r is;
      excess_len = (refl, refl);
    }

pub put_faces-requires : goal.put_faces-requires
put_faces-requires c = let r = c.args.r in
    let is = c.requires.r_value in
    let read = c.read_layer.ensures in record {
      elements_nonzero = counted r is;
      held_within = ((site_is r is).top_held, (site_is r is).bottom_held);
      t_le_most = c.requires.t_le_most;
      readable = rw (read.excess_after, read.resistance_after) (readable r is _ _);
      bottom_in_bounds = omega (arith, few_faces (n r) (top r) (bottom r) (counted r is).1, c.requires.in_bounds);
    }

pub returns : goal.returns
unfolding zeros
returns c = let r = c.args.r in
    let is = c.requires.r_value in
    let read = c.read_layer.ensures in
    let told = c.put_faces.ensures in record {
      value = (told.value ∙ faces_count r is [] [], omega (arith, told.value, few_faces (n r) (top r) (bottom r) (counted r is).1));
      out_after = faces_stored r is c.args.t (replicate 128 (pos 0)) (zeros 128) c.args.out.now read.excess_after read.resistance_after told.out_after;
    }
