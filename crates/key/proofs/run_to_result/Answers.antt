use Prim.Native.Nat.{ℕ, ◌≤◌}
use lib.ListN.{length}
use mathlib.Core.Bool.{true}
use mathlib.Core.List.{List}
use mathlib.Core.Path.{◌≡◌, sym, ap, subst, ◌∙◌}
use Rattle.key.proofs.KeyLaws.{no_room, room_enough}
use Rattle.key.proofs.Layers.{ended_layer}
use Rattle.lent.proofs.Standing.{counted}
use Rattle.numbers.specs.Arrays.{overlaid}
use Rattle.result.proofs.ResultLaws.{number_is, buffer_is}
use Rattle.rules.specs.Calls.{Ending, ended_run}
use Rattle.rules.specs.Job.{counts_of}
use Rattle.rules.specs.Record.{soil_of, layer_of, record_of, with_parts, is_layer}
use Rattle.rules.specs.Result.{refused_result, result_bytes, result_size}
use Rattle.rules.specs.declared.answers.Ended.{Ended}
use Rattle.rules.specs.declared.record.CurveCounts.{CurveCounts}
use Rattle.rules.specs.declared.record.Record.{Record}
use Rattle.key.proofs.run_to_result.Goals as goal
use Rattle.key.proofs.run_to_result.Lts as lts
use Rattle.key.proofs.run_to_result.Reads as reads
use Rattle.key.proofs.run_to_result.Tie as tie

-- the layer that is lent
abbrev lent_with : lts.Start tie.the-claims reads.Pre reads.Post tie.handed_clauses → CurveCounts → Record
lent_with s counts =
    let a = s.args in
    record_of (soil_of counts a.void.now a.stress.now a.conductivity_void.now a.conductivity.now)
    (layer_of a.frame a.progress a.solids.now a.water.now a.table_time.now a.table_load.now)

abbrev layer : lts.Start tie.the-claims reads.Pre reads.Post tie.handed_clauses → Record
layer s = lent_with s (counts_of s.args.header)

pub result_size-requires : goal.result_size-requires
result_size-requires c = (counted (layer c.before.before) c.requires.r_value).1

pub returns-then-out-result_size : goal.returns-then-out-result_size
unfolding refused_result
returns-then-out-result_size c = let s = c.before.before.before.before.before in
    let short = rw c.result_size.ensures at c.if-out-result_size.true in
    let (e, w) = no_room (layer s) s.args.header.end s.args.header.budget s.args.out.now short in record {
      value = c.refused.ensures ∙ number_is e;
      out_after = buffer_is e;
      water_after = sym w;
    }

-- the same layer by the counts that were read
counts-as : (s : lts.Start tie.the-claims reads.Pre reads.Post tie.handed_clauses) {counts : CurveCounts} → counts ≡ counts_of s.args.header → is_layer (layer s) ≡ true → is_layer (lent_with s counts) ≡ true
counts-as s e h = rw e h

pub run_lent-ended-requires : goal.run_lent-ended-requires
run_lent-ended-requires c = let s = c.before.before.before.before.before.before in record {
  r_value = counts-as s c.curve_counts-counts.ensures s.requires.r_value;
  clock_le_end = s.requires.clock_le_end;
  water_len = s.requires.water_len;
}

module _ (f : lts.After-run_lent tie.the-claims reads.Pre reads.Post tie.handed_clauses) where
  abbrev n : lts.After-curve_counts tie.the-claims reads.Pre reads.Post tie.handed_clauses
  n = f.before.before

  abbrev s : lts.Start tie.the-claims reads.Pre reads.Post tie.handed_clauses
  s = n.before.before.before.before

  abbrev out : List ℕ
  out = s.args.out.now

  abbrev end : ℕ
  end = s.args.header.end

  abbrev budget : ℕ
  budget = s.args.header.budget

  abbrev ended : Ended
  ended = f.run_lent-ended.result

  abbrev water : List ℕ
  water = f.run_lent-ended.new.water

  -- there is room for its result
  room : result_size s.args.frame.elements ≤ length out
  room = subst (λ (k : ℕ). k ≤ length out) n.result_size.ensures n.if-out-result_size.false

  abbrev left : Record → Ending
  left r = record { stop = ended.stop; steps = ended.steps; after = with_parts r water ended.progress }

  gives : ended_run (layer s) end budget ≡ left (layer s)
  gives = subst (λ (k : CurveCounts). ended_run (lent_with s k) end budget ≡ left (lent_with s k)) n.curve_counts-counts.ensures f.run_lent-ended.ensures

  after_layer : is_layer (with_parts (layer s) water ended.progress) ≡ true
  after_layer = subst (λ (x : Ending). is_layer x.after ≡ true) gives (ended_layer (layer s) end budget s.requires.r_value s.requires.clock_le_end.0 s.requires.clock_le_end.1)

-- the record after the run, by the counts that were read
after-as : (f : lts.After-run_lent tie.the-claims reads.Pre reads.Post tie.handed_clauses) {counts : CurveCounts} → counts ≡ counts_of (s f).args.header →
    with_parts (lent_with (s f) counts) (water f) (ended f).progress ≡ with_parts (layer (s f)) (water f) (ended f).progress
after-as f e = ap (λ (k : CurveCounts). with_parts (lent_with (s f) k) (water f) (ended f).progress) e

pub write_lent-requires : goal.write_lent-requires
write_lent-requires c = let f = c.before in record {
  r_value = subst (λ (r : Record). is_layer r ≡ true) (sym (after-as f (n f).curve_counts-counts.ensures)) (after_layer f);
  burden_value = ((s f).requires.water_len.1, room f);
}

pub returns : goal.returns
returns c = let f = c.before.before.before.before.before in
    let (e, left-water) = room_enough (layer (s f)) (end f) (budget f) (out f) (room f) in
    let bytes = ap (λ (x : Ending). overlaid (result_bytes x.after x.stop x.steps) (out f)) (gives f) in record {
      value = number_is e;
      out_after = c.write_lent.ensures ∙
          ap (λ (r : Record). overlaid (result_bytes r (ended f).stop (ended f).steps) (out f)) (after-as f (n f).curve_counts-counts.ensures) ∙ sym bytes ∙ buffer_is e;
      water_after = sym (left-water ∙ ap (λ (x : Ending). x.after.layer.water) (gives f));
    }
