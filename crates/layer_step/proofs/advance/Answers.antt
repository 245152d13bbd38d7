use lib.IntN.{ℤ, pos}
use lib.ListN.{get_or}
use native.Mathlib.Omega.{arith}
use Prim.Native.Nat.{◌-◌}
use mathlib.Core.List.{List}
use mathlib.Core.Path.{◌≡◌, sym, ap, ◌∙◌}
use mir.Syntax.{w64}
use mir.Val.{of_z, to_z}
use Rattle.layer_step.proofs.MovingAt.{lowest, above, stays_now, movable, movable_as, stays_as, filled_as, gives_leaves, gives_flows, keeps, moves_on, stays_positive, first_flow, last_flow, water_is}
use Rattle.numbers.proofs.Signed.{read_back}
use Rattle.layer_step.specs.Moving.{flows_in, new_heights, stays_between}
use Rattle.numbers.specs.Arrays.{overlaid, filled, every_index}
use Rattle.numbers.proofs.Interval.{within_fits}
use Rattle.numbers.specs.Lists.{first_or, last_or}
use Rattle.water.specs.Water.{height_after, stays_at, Movable}
use Rattle.layer_step.proofs.advance.Goals as goal
use Rattle.layer_step.proofs.advance.Lts as lts
use Rattle.layer_step.proofs.advance.Reads as reads
use Rattle.layer_step.proofs.advance.Tie as tie

pub all_flows-lowest-requires : goal.all_flows-lowest-requires
all_flows-lowest-requires c = record {
  elements_nonzero = c.requires.elements_nonzero;
  held_within = c.requires.held_within;
  t_le_most = c.requires.t_le_most;
  readable = c.requires.readable;
  above_len = c.requires.above_len.0;
}

-- the flows as the arrays hold them
module _ (c : lts.After-all_flows tie.the-claims reads.Pre reads.Post tie.handed_clauses) where
  abbrev s : lts.Start tie.the-claims reads.Pre reads.Post tie.handed_clauses
  s = c.before.before

  abbrev bottom-flow : ℤ
  bottom-flow = lowest s.args.elements s.requires.elements_nonzero.0 s.args.top s.args.bottom s.args.t s.args.excess.now s.args.resistance.now s.args.above.now

  abbrev flows-above : List ℤ
  flows-above = above s.args.elements s.requires.elements_nonzero.0 s.args.top s.args.bottom s.args.t s.args.excess.now s.args.resistance.now s.args.above.now

  abbrev now-above : List ℤ
  now-above = c.all_flows-lowest.new.above

  bottom-is : to_z w64 (of_z w64 c.all_flows-lowest.result) ≡ bottom-flow
  bottom-is = read_back {z = c.all_flows-lowest.result} (record { sfits = c.all_flows-lowest.type_inv }) ∙ c.all_flows-lowest.ensures.value

  above_is : now-above ≡ flows-above
  above_is = c.all_flows-lowest.ensures.above_after

  moves : Movable s.args.elements bottom-flow flows-above s.args.water.now
  moves = movable s.args.elements s.requires.elements_nonzero.0 s.args.top s.args.bottom s.args.t s.args.excess.now s.args.resistance.now s.args.above.now s.args.water.now s.requires.held_within.0 s.requires.held_within.1 s.requires.t_le_most s.requires.readable (λ j h. (s.requires.by_index j h).2)

  moves-now : Movable s.args.elements (to_z w64 (of_z w64 c.all_flows-lowest.result)) c.all_flows-lowest.new.above s.args.water.now
  moves-now = movable_as s.args.elements s.args.water.now bottom-is above_is moves

  -- the first of the flows is that of the bottom
  first_is : to_z w64 (of_z w64 c.all_flows-lowest.result) ≡ first_or (pos 0) (flows_in s.args.top s.args.bottom s.args.t s.args.elements s.args.excess.now s.args.resistance.now)
  first_is =
      bottom-is ∙
      sym (first_flow s.args.elements s.requires.elements_nonzero.0 s.args.top s.args.bottom s.args.t s.args.excess.now s.args.resistance.now s.args.above.now)

  -- the last of the flows is that of the top
  top-is : to_z w64 (of_z w64 (get_or now-above (s.args.elements - 1) (pos 0))) ≡ last_or (pos 0) (flows_in s.args.top s.args.bottom s.args.t s.args.elements s.args.excess.now s.args.resistance.now)
  top-is =
      read_back (within_fits tt (moves-now.above_within (s.args.elements - 1) (omega (arith, s.requires.elements_nonzero.0)))) ∙
      ap (λ (l : List ℤ). get_or l (s.args.elements - 1) (pos 0)) above_is ∙
      sym (last_flow s.args.elements s.requires.elements_nonzero.0 s.args.top s.args.bottom s.args.t s.args.excess.now s.args.resistance.now s.args.above.now)

  water-now : filled s.args.water.now s.args.elements (height_after (to_z w64 (of_z w64 c.all_flows-lowest.result)) now-above s.args.water.now) ≡
      overlaid (new_heights s.args.elements s.args.water.now (flows_in s.args.top s.args.bottom s.args.t s.args.elements s.args.excess.now s.args.resistance.now)) s.args.water.now
  water-now =
      filled_as s.args.elements s.args.water.now bottom-is above_is ∙
      water_is s.args.elements s.requires.elements_nonzero.0 s.args.top s.args.bottom s.args.t s.args.excess.now s.args.resistance.now s.args.above.now s.args.water.now

  -- the test by bounds
  stays : every_index s.args.elements (stays_at (to_z w64 (of_z w64 c.all_flows-lowest.result)) c.all_flows-lowest.new.above s.args.water.now s.args.low.now s.args.high.now) ≡
      stays_between s.args.elements s.args.low.now s.args.high.now s.args.water.now
      (flows_in s.args.top s.args.bottom s.args.t s.args.elements s.args.excess.now s.args.resistance.now)
  stays =
      stays_as s.args.elements s.args.water.now s.args.low.now s.args.high.now bottom-is above_is ∙
      stays_now s.args.elements s.requires.elements_nonzero.0 s.args.top s.args.bottom s.args.t s.args.excess.now s.args.resistance.now s.args.above.now s.args.water.now s.args.low.now s.args.high.now

pub stays_between-requires : goal.stays_between-requires
stays_between-requires c = record {
  elements_le_most = c.requires.elements_nonzero.1;
  movable = moves-now c;
  by_index = λ j h. ((c.requires.by_index j h).0, (c.requires.by_index j h).1);
}

pub returns-then-not-stays_between : goal.returns-then-not-stays_between
returns-then-not-stays_between c = let f = c.before.before in
    let gone = sym (stays f) ∙ sym c.stays_between.ensures ∙ c.if-not-stays_between.true in record {
      value = gives_leaves _ gone;
      water_after = keeps _ _ _ gone;
      above_after = f.all_flows-lowest.ensures.above_after;
    }

pub move_water-requires : goal.move_water-requires
move_water-requires c = let f = c.before.before.before in
    let on = sym c.stays_between.ensures ∙ c.if-not-stays_between.false in record {
      elements_le_most = c.requires.elements_nonzero.1;
      movable = moves-now f;
      by_index = stays_positive c.args.elements _ (now-above f) c.args.water.now c.args.low.now c.args.high.now on;
      water_len = c.requires.above_len.1;
    }

pub returns : goal.returns
returns c = let f = c.before.before.before.before.before in
    let on = sym c.stays_between.ensures ∙ c.if-not-stays_between.false in record {
      value = gives_flows _ (sym (stays f) ∙ on) (first_is f) (top-is f);
      water_after = c.move_water.ensures ∙ water-now f ∙ moves_on _ _ _ (sym (stays f) ∙ on);
      above_after = f.all_flows-lowest.ensures.above_after;
    }
