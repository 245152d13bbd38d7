use native.Mathlib.Omega.{arith}
use borrow.Author.Rules.{rules}
use lib.IntN.{pos}
use lib.ListN.{length}
use mathlib.Core.Bool.{true}
use mathlib.Core.List.{◌∷◌, []}
use mathlib.Core.Path.{◌≡◌, refl, sym, ap, ◌∙◌}
use Rattle.lent.proofs.CallLaws.{in_numbers, not_layer, on_layer, refused_on_layer, load_outside, load_set_lem, own_water}
use Rattle.lent.specs.Progress.{loaded}
use Rattle.lent.proofs.Standing.{counted}
use Rattle.quantities.proofs.Limits.{tested_some, tested_none}
use Rattle.rules.specs.Load.{with_load}
use Rattle.quantities.specs.Quantities.{pressure}
use Rattle.rules.specs.Record.{record_state, with_parts, with_events, is_layer}
use Rattle.rules.specs.Run.{load_set, after_event, after_events}
use Rattle.rules.specs.declared.answers.Answer.TheVariants.{Done}
use Rattle.rules.specs.declared.answers.Call.TheVariants.{Load}
use Rattle.rules.specs.declared.answers.Refusal.TheVariants.{LoadOutside}
use Rattle.rules.specs.declared.record.Record.{Record}
use Rattle.load.proofs.set_load.Goals as goal
use Rattle.load.proofs.set_load.Lts as lts
use Rattle.load.proofs.set_load.Reads as reads
use Rattle.load.proofs.set_load.Tie as tie

pub returns-then-not-is_layer : goal.returns-then-not-is_layer
returns-then-not-is_layer c = let t = in_numbers c.args.r (Load c.args.load)
    (c.refused.ensures ∙ sym (not_layer c.args.r (Load c.args.load) (sym c.is_layer.ensures ∙ c.if-not-is_layer.true))) in record {
      value = t.0;
      answer_value = t.1;
    }

-- the record is a layer
module _ (c : lts.After-new tie.the-claims reads.Pre reads.Post tie.handed_clauses) where
  abbrev start : lts.Start tie.the-claims reads.Pre reads.Post tie.handed_clauses
  start = c.before.before.before.before.before.before

  abbrev r : Record
  r = start.args.r

  standing : is_layer r ≡ true
  standing = sym c.is_layer.ensures ∙ c.if-not-is_layer.false

pub returns-in-None : goal.returns-in-None
returns-in-None c = let t = let n = c.before.before in
    let load = (start n).args.load in
    in_numbers (r n) (Load load)
    (c.refused-in-None.ensures ∙
    sym (refused_on_layer (r n) (Load load) LoadOutside (standing n) (load_outside _ _ load (tested_none _ _ _ (sym c.in-None.is ∙ n.new.ensures))))) in record {
      value = t.0;
      answer_value = t.1;
    }

pub returns-in-Some : goal.returns-in-Some
unfolding with_events after_events after_event with_load record_state
returns-in-Some c = let t = let p = c.before.before in
    let n = p.before in
    let long : length c.args.r.layer.water ≡ 128 = search rules in
    let load = (start n).args.load in
    let tells = tested_some _ _ _ (sym p.in-Some.is ∙ n.new.ensures) in
    let set = with_load (pos load) (record_state (r n)) in
    let progress = c.loaded.ensures ∙ ap (loaded (r n).layer.progress) tells.1 in
    let parts : c.with_parts.result ≡ with_parts (r n) (r n).layer.water (loaded (r n).layer.progress (pressure (pos load))) =
    c.with_parts.ensures ∙ ap (with_parts (r n) (r n).layer.water) progress in
    in_numbers (r n) (Load load)
    (ap (λ (x : Record). record { answer = Done; after = x }) (parts ∙ own_water (r n) set (omega (arith, long, (counted (r n) (standing n)).1)) refl) ∙
    sym (on_layer (r n) (Load load) (record { answer = Done; events = load_set (pos load) ∷ [] }) (standing n) (load_set_lem _ _ load tells.0))) in record {
      value = t.0;
      answer_value = t.1;
    }
