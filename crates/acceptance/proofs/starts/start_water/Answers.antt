use native.Mathlib.Omega.{arith}
use Prim.Native.Nat.{ℕ, ◌≤◌}
use lib.Dec.{eqb}
use lib.ListN.{length}
use mathlib.Core.Bool.{Bool}
use mathlib.Core.List.{List}
use Rattle.std.specs.Prelude.{Option, None, Some}
use mathlib.Core.Path.{◌≡◌, sym, ap, ◌∙◌}
use Rattle.acceptance.proofs.Starting.{given_found, given_left, resting-found, unrested_found, resting_long, resting_most, resting_left, cleared_left, dry_given}
use Rattle.acceptance.specs.Accepting.{water_started}
use Rattle.numbers.specs.Arrays.{first_places}
use Rattle.numbers.specs.Lists.{all}
use Rattle.rules.specs.Curve.{points}
use Rattle.rules.specs.Layer.{Skeleton, skeleton_of}
use Rattle.rules.specs.Start.{resting_from, start_water}
use Rattle.start.specs.Rest.{all_or_none}
use Rattle.acceptance.proofs.starts.start_water.Goals as goal
use Rattle.acceptance.proofs.starts.start_water.Lts as lts
use Rattle.acceptance.proofs.starts.start_water.Reads as reads
use Rattle.acceptance.proofs.starts.start_water.Tie as tie

module _ (s : lts.Start tie.the-claims reads.Pre reads.Post tie.handed_clauses) where
  abbrev soil : Skeleton
  soil = skeleton_of (points s.args.skeleton.points s.args.void.now s.args.stress.now)

  abbrev Bs : List ℕ
  Bs = first_places s.args.elements s.args.burden.now

  abbrev Ss : List ℕ
  Ss = first_places s.args.elements s.args.solids.now

  -- the water of the start
  abbrev found : Option (List ℕ)
  found = start_water soil Bs Ss s.args.may_rest s.args.start (first_places s.args.elements s.args.water.now) s.args.load

  abbrev water_left : Option (List ℕ) → List ℕ
  water_left water = water_started water s.args.water.now

  few : s.args.elements ≤ length s.args.water.now
  few = omega (arith, s.requires.elements_le_most.0, s.requires.water_len.0)

pub all_on_curve-requires : goal.all_on_curve-requires
all_on_curve-requires c = let p = c.requires in record {
  elements_le_most = p.elements_le_most.0;
  by_index = (λ j h. ((p.by_index_2 j h).0, (p.by_index_2 j h).2));
  least_le_points = (p.least_le_points.0, p.least_le_points.1);
  stress_value = p.least_le_points.2;
}

pub returns-then-not-rests : goal.returns-then-not-rests
returns-then-not-rests c = let t = c.before.before in
    let s = t in
    let start : found s ≡ all_or_none c.all_on_curve.result (first_places s.args.elements s.args.water.now) =
    given_found (soil s) (Bs s) (Ss s) s.args.may_rest _ _ _ (λ e. omega (arith, e, c.if-not-rests.true)) c.all_on_curve.ensures in record {
      load_value = start;
      water_after = given_left _ _ (few s) c.all_on_curve.result ∙ ap (water_left s) (sym start);
      by_index_3 = λ j h. (s.requires.by_index_2 j h).2;
    }

-- start 1 over another level
pub returns-then-not-may_rest : goal.returns-then-not-may_rest
unfolding all_or_none water_started
returns-then-not-may_rest c = let s = c.before.before in
    let none_found : found s ≡ None =
    unrested_found (soil s) (Bs s) (Ss s) s.args.may_rest _ _ _ c.if-not-rests.false c.if-not-may_rest.true in record {
      load_value = none_found;
      water_after = ap (water_left s) (sym none_found);
      by_index_3 = λ j h. (s.requires.by_index_2 j h).2;
    }

pub resting_waters-requires : goal.resting_waters-requires
resting_waters-requires c = let p = c.requires in record {
  elements_le_most = p.elements_le_most.0;
  load_le_most = p.elements_le_most.1;
  by_index = p.by_index;
  by_index_2 = (λ j h. ((p.by_index_2 j h).0, (p.by_index_2 j h).1));
  least_le_points = (p.least_le_points.0, p.least_le_points.1);
  stress_value = p.least_le_points.2;
  water_len = p.water_len.0;
}

-- what the heights that are put are
module _ (c : lts.After-resting_waters tie.the-claims reads.Pre reads.Post tie.handed_clauses) where
  abbrev s₁ : lts.Start tie.the-claims reads.Pre reads.Post tie.handed_clauses
  s₁ = c.before.before.before.before

  abbrev after : List ℕ
  after = c.resting_waters.new.water

  at_rest : s₁.args.start ≡ 1
  at_rest = c.if-not-rests.false

  resting-is : found s₁ ≡ resting_from (soil s₁) s₁.args.load (Bs s₁) (Ss s₁)
  resting-is = resting-found (soil s₁) (Bs s₁) (Ss s₁) s₁.args.may_rest _ _ _ at_rest c.if-not-may_rest.false

  rests : found s₁ ≡ all_or_none c.resting_waters.result (first_places s₁.args.elements after)
  rests = resting-is ∙ c.resting_waters.ensures.solids_value

  rests-by : {All-rest : Bool} → c.resting_waters.result ≡ All-rest → found s₁ ≡ all_or_none All-rest (first_places s₁.args.elements after)
  rests-by e = rests ∙ ap (λ (b : Bool). all_or_none b (first_places s₁.args.elements after)) e

pub clear-requires : goal.clear-requires
clear-requires c =
    let r = c.before.before in
    let s = s₁ r in
    (s.requires.elements_le_most.0, resting_long _ _ (few s) _ _ _ _ _ r.resting_waters.ensures.water_after ∙ s.requires.water_len.0)

pub returns-then-not-resting_waters : goal.returns-then-not-resting_waters
unfolding all_or_none water_started
returns-then-not-resting_waters c = let t = c.before.before in
    let r = t.before in
    let s = s₁ r in
    let none_found : found s ≡ None = rests-by r t.if-not-resting_waters.true in
    let dry = dry_given s.args.start (all (λ w. eqb w 0) (first_places s.args.elements s.args.water.now)) (at_rest r) s.requires.water_len.1 in
    let kept : c.clear.new.numbers ≡ s.args.water.now =
    c.clear.ensures ∙ cleared_left _ _ (few s) _ _ _ _ (after r) r.resting_waters.ensures.water_after dry in record {
      load_value = none_found;
      water_after = kept ∙ ap (water_left s) (sym none_found);
      by_index_3 = λ j h. rw kept (s.requires.by_index_2 j h).2;
    }

pub returns : goal.returns
unfolding all_or_none water_started
returns c = let r = c.before in
    let s = s₁ r in
    let all_found : found s ≡ Some (first_places s.args.elements (after r)) = rests-by r c.if-not-resting_waters.false in record {
      load_value = all_found;
      water_after = resting_left _ _ (few s) _ _ _ _ _ r.resting_waters.ensures.water_after
          (sym (resting-is r) ∙ all_found) ∙
          ap (water_left s) (sym all_found);
      by_index_3 = resting_most _ _ (few s) _ _ _ _ _ r.resting_waters.ensures.water_after (λ j h. (s.requires.by_index_2 j h).2);
    }
