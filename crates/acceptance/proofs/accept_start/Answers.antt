use Prim.Native.Nat.{ℕ, ◌≤◌}
use native.Mathlib.Omega.{arith}
use lib.ListN.{length}
use mathlib.Core.Bool.{true, false}
use mathlib.Core.List.{List}
use Rattle.std.specs.Prelude.{None}
use mathlib.Core.Path.{◌≡◌, ap, ◌∙◌}
use Rattle.acceptance.proofs.AcceptingLaws.{Accepts, burdens_in}
use Rattle.acceptance.proofs.SoundDescription as sound
use Rattle.description.specs.Lent.{description_of}
use Rattle.numbers.specs.Arrays.{first_places}
use Rattle.numbers.specs.Sums.{sum}
use Rattle.rules.specs.Job.{Description, described_causes, frame_of, header_sound}
use Rattle.rules.specs.Refusals.{first_cause}
use Rattle.std.specs.Prelude.{Ok, Err}
use Rattle.rules.specs.declared.answers.Refusal.TheVariants.{StartNotSteady, StartOffCurve}
use Rattle.acceptance.proofs.accept_start.Goals as goal
use Rattle.acceptance.proofs.accept_start.Lts as lts
use Rattle.acceptance.proofs.accept_start.Reads as reads
use Rattle.acceptance.proofs.accept_start.Tie as tie

module _ (s : lts.Start tie.the-claims reads.Pre reads.Post tie.handed_clauses) where
  -- the description that is lent
  abbrev d : Description
  d =
      let a = s.args in
      description_of a.header a.void.now a.stress.now a.conductivity_void.now a.conductivity.now a.solids.now a.water.now
      a.table_time.now a.table_load.now

  header : header_sound d.header ≡ true
  header = s.requires.header_value.0

  none_first : first_cause (described_causes d) ≡ None
  none_first = s.requires.header_value.1

pub burdens-requires : goal.burdens-requires
burdens-requires c = let s = c.before in
    let k = sound.kept (d s) (header s) (none_first s) in record {
      elements_le_most = k.elements_kept.most;
      least_le_gravity = (k.gravity_kept.least, k.gravity_kept.most);
      by_index = (λ j h. (sound.heights_kept (d s) (header s) (none_first s) j h).1);
      burden_len = s.requires.water_len.1;
    }

pub start_water-requires : goal.start_water-requires
start_water-requires c = let b = c.before.before.before.before.before in
    let s = b.before.before in
    let k = sound.kept (d s) (header s) (none_first s) in record {
      elements_le_most = (k.elements_kept.most, sound.load_most (d s) (header s) (none_first s));
      by_index = sound.burden_most (d s) (header s) (none_first s) _ _ b.burdens.ensures;
      by_index_2 = sound.heights_kept (d s) (header s) (none_first s);
      least_le_points = (k.compressibility_kept.least, k.compressibility_kept.most, sound.curve_sound (d s) (header s) (none_first s));
      water_len = (s.requires.water_len.0, sound.dry (d s) (header s) (none_first s));
    }

-- its start is worked out
module _ (c : lts.After-start_water tie.the-claims reads.Pre reads.Post tie.handed_clauses) where
  abbrev b₁ : lts.After-burdens tie.the-claims reads.Pre reads.Post tie.handed_clauses
  b₁ = c.before.before.before.before.before

  abbrev s₁ : lts.Start tie.the-claims reads.Pre reads.Post tie.handed_clauses
  s₁ = b₁.before.before

  abbrev water : List ℕ
  water = c.start_water.new.water

  is_over : c.rests_over.result ≡ sound.over (d s₁) (header s₁) (none_first s₁)
  is_over = c.rests_over.ensures _

  off : c.start_water.result ≡ false → Accepts (d s₁) (Err StartOffCurve) water (burdens_in (d s₁))
  off e =
      sound.off_curve (d s₁) (header s₁) (none_first s₁) _ _ b₁.burdens.ensures is_over c.start_water.result water
      c.start_water.ensures.load_value c.start_water.ensures.water_after e

pub returns-then-not-start_water : goal.returns-then-not-start_water
returns-then-not-start_water c = let w = c.before.before in
    let a = off w c.if-not-start_water.true in record {
      value = a.answers;
      water_after = a.water_left;
      burden_after = (b₁ w).burdens.ensures ∙ a.burden_left _;
    }

pub total_water-starting-requires : goal.total_water-starting-requires
total_water-starting-requires c = let w = c.before.before in record {
  elements_le_most = (sound.kept (d (s₁ w)) (header (s₁ w)) (none_first (s₁ w))).elements_kept.most;
  by_index = w.start_water.ensures.by_index_3;
}

pub frame-frame-requires : goal.frame-frame-requires
frame-frame-requires c = let s = s₁ c.before.before.before in record {
  levels_value = s.requires.levels_value;
  top_level_bound = sound.levels_kept (d s) (header s) (none_first s);
}

pub opening_progress-progress-requires : goal.opening_progress-progress-requires
opening_progress-progress-requires c =
    let s = s₁ c.before.before.before.before in
    sound.load_most (d s) (header s) (none_first s)

-- the numbers of its layer
module _ (c : lts.After-opening_progress tie.the-claims reads.Pre reads.Post tie.handed_clauses) where
  abbrev f₂ : lts.After-frame tie.the-claims reads.Pre reads.Post tie.handed_clauses
  f₂ = c.before

  abbrev w₂ : lts.After-start_water tie.the-claims reads.Pre reads.Post tie.handed_clauses
  w₂ = f₂.before.before.before

  abbrev d₂ : Description
  d₂ = d (s₁ w₂)

  frame_is : f₂.frame-frame.result ≡ frame_of d₂.header (sum (first_places d₂.header.elements (water w₂)))
  frame_is = f₂.frame-frame.ensures ∙ ap (frame_of d₂.header) f₂.total_water-starting.ensures.0

  found : w₂.start_water.result ≡ true
  found = f₂.if-not-start_water.false

pub start_steady-requires : goal.start_steady-requires
start_steady-requires c = let o = c.before in
    let w = w₂ o in
    let s = s₁ w in record {
      r_value = sound.lent_layer (d s) (header s) (none_first s) _ _ (b₁ w).burdens.ensures (is_over w) w.start_water.result (water w)
          w.start_water.ensures.load_value w.start_water.ensures.water_after (found o) (frame_is o) o.opening_progress-progress.ensures;
      by_index = sound.lent_burdens (d s) (header s) (none_first s) _ _ (b₁ w).burdens.ensures (is_over w) w.start_water.result (water w)
          w.start_water.ensures.load_value w.start_water.ensures.water_after (found o) (frame_is o) o.opening_progress-progress.ensures;
    }

-- the answer, once its steadiness is tested
module _ (c : lts.After-start_steady tie.the-claims reads.Pre reads.Post tie.handed_clauses) where
  abbrev o₃ : lts.After-opening_progress tie.the-claims reads.Pre reads.Post tie.handed_clauses
  o₃ = c.before

  abbrev w₃ : lts.After-start_water tie.the-claims reads.Pre reads.Post tie.handed_clauses
  w₃ = w₂ o₃

  abbrev s₃ : lts.Start tie.the-claims reads.Pre reads.Post tie.handed_clauses
  s₃ = s₁ w₃

  few : (d s₃).header.elements ≤ length (d s₃).water
  few = omega (arith, (sound.kept (d s₃) (header s₃) (none_first s₃)).elements_kept.most, s₃.requires.water_len.0)

  unsteady : c.start_steady.result ≡ false → Accepts (d s₃) (Err StartNotSteady) (water w₃) (burdens_in (d s₃))
  unsteady e =
      sound.unsteady (d s₃) (header s₃) (none_first s₃) _ _ (b₁ w₃).burdens.ensures (is_over w₃) w₃.start_water.result (water w₃)
      w₃.start_water.ensures.load_value w₃.start_water.ensures.water_after (found o₃) (frame_is o₃) o₃.opening_progress-progress.ensures c.start_steady.ensures
      few e

  accepts : c.start_steady.result ≡ true →
      Accepts (d s₃) (Ok (record { frame = (f₂ o₃).frame-frame.result; progress = o₃.opening_progress-progress.result })) (water w₃) (burdens_in (d s₃))
  accepts e =
      sound.accepts (d s₃) (header s₃) (none_first s₃) _ _ (b₁ w₃).burdens.ensures (is_over w₃) w₃.start_water.result (water w₃)
      w₃.start_water.ensures.load_value w₃.start_water.ensures.water_after (found o₃) (frame_is o₃) o₃.opening_progress-progress.ensures c.start_steady.ensures e

pub returns-then-not-start_steady : goal.returns-then-not-start_steady
returns-then-not-start_steady c = let t = c.before.before in
    let a = unsteady t c.if-not-start_steady.true in record {
      value = a.answers;
      water_after = a.water_left;
      burden_after = (b₁ (w₃ t)).burdens.ensures ∙ a.burden_left _;
    }

pub returns : goal.returns
returns c = let t = c.before.before in
    let a = accepts t c.if-not-start_steady.false in record {
      value = a.answers;
      water_after = a.water_left;
      burden_after = (b₁ (w₃ t)).burdens.ensures ∙ a.burden_left _;
    }
