-- What a call answers, by the tests that it passes.
use Prim.Native.Nat.{ℕ, ◌≤◌}
use lib.IntN.{pos}
use lib.ListN.{length}
use mathlib.Core.Bool.{Bool, true, false, not}
use mathlib.Core.List.{List, [], ◌∷◌}
use Rattle.std.specs.Prelude.{Option, None, Some}
use mathlib.Core.Path.{◌≡◌, refl, sym, ap, ◌∙◌}
use Rattle.numbers.specs.Arrays.{first_places, overlaid}
use Rattle.numbers.proofs.Filled.{tabulate-get_or, overlaid-take}
use Rattle.rules.specs.Calls.{called, called_numbers}
use Rattle.rules.specs.Layer.{Site, State}
use Rattle.rules.specs.Load.{load_refusal}
use Rattle.rules.specs.Outcome.{Outcome, answer_numbers, refused, outcome}
use Rattle.quantities.specs.Quantities.{within, stress_limits}
use Rattle.rules.specs.Record.{record_site, record_state, progress_of, with_parts, with_state, with_events, is_layer}
use Rattle.rules.specs.Refusals.{◌if◌, first_cause}
use Rattle.rules.specs.Run.{load_set}
use Rattle.rules.specs.declared.answers.Answer.TheVariants.{Done, Refused}
use Rattle.rules.specs.declared.answers.Answered.{Answered}
use Rattle.rules.specs.declared.answers.Call.{Call}
use Rattle.rules.specs.declared.answers.Call.TheVariants.{Load}
use Rattle.rules.specs.declared.answers.Refusal.{Refusal}
use Rattle.rules.specs.declared.answers.Refusal.TheVariants.{NoLayer, LoadOutside}
use Rattle.rules.specs.declared.record.Record.{Record}

-- ---- any call

-- an answer that is the call's has the call's numbers
pub in_numbers : (r : Record) (call : Call) {a : Answered} → a ≡ called r call →
    (a ≡ called r call) × (answer_numbers a.answer ≡ called_numbers r call)
unfolding called_numbers
in_numbers r call e = (e, ap (λ (x : Answered). answer_numbers x.answer) e)

-- cause 11 comes first
pub not_layer : (r : Record) (call : Call) → is_layer r ≡ false → called r call ≡ record { answer = Refused NoLayer; after = r }
unfolding called
not_layer r call e = ap (λ (b : Bool). elim b as (λ _. Answered) [
  | false ↦ record { answer = Refused NoLayer; after = r }
  | true ↦
      record {
        answer = (outcome (record_site r) (record_state r) call).answer;
        after = with_events r (outcome (record_site r) (record_state r) call).events;
      }
]) e

-- a layer answers as its outcome
pub on_layer : (r : Record) (call : Call) (o : Outcome) → is_layer r ≡ true → outcome (record_site r) (record_state r) call ≡ o →
    called r call ≡ record { answer = o.answer; after = with_events r o.events }
unfolding called
on_layer r call o e p =
    ap (λ (b : Bool). elim b as (λ _. Answered) [
      | false ↦ record { answer = Refused NoLayer; after = r }
      | true ↦
          record {
            answer = (outcome (record_site r) (record_state r) call).answer;
            after = with_events r (outcome (record_site r) (record_state r) call).events;
          }
    ]) e ∙ ap (λ (x : Outcome). record { answer = x.answer; after = with_events r x.events }) p

-- a refusal on a layer leaves the record
pub refused_on_layer : (r : Record) (call : Call) (cause : Refusal) → is_layer r ≡ true → outcome (record_site r) (record_state r) call ≡ refused cause →
    called r call ≡ record { answer = Refused cause; after = r }
unfolding refused with_events
refused_on_layer r call cause e p = on_layer r call (refused cause) e p

-- ---- load

-- the outcome by the refusal
pub by_refusal : (site : Site) (s : State) (load : ℕ) (cause : Option Refusal) → load_refusal load ≡ cause →
    outcome site s (Load load) ≡ elim cause [ Some cause ↦ refused cause | None ↦ record { answer = Done; events = load_set (pos load) ∷ [] } ]
unfolding outcome
by_refusal site s load cause e =
    ap (λ (c : Option Refusal). elim c as (λ _. Outcome) [ Some x ↦ refused x | None ↦ record { answer = Done; events = load_set (pos load) ∷ [] } ]) e

module _ (site : Site) (s : State) (load : ℕ) where
  pub load_outside : within stress_limits load ≡ false → outcome site s (Load load) ≡ refused LoadOutside
  unfolding load_refusal first_cause
  load_outside e = by_refusal site s load (Some LoadOutside) (ap (λ (b : Bool). first_cause ((LoadOutside if not b) ∷ [])) e)

  pub load_set_lem : within stress_limits load ≡ true → outcome site s (Load load) ≡ record { answer = Done; events = load_set (pos load) ∷ [] }
  unfolding load_refusal first_cause
  load_set_lem e = by_refusal site s load None (ap (λ (b : Bool). first_cause ((LoadOutside if not b) ∷ [])) e)

-- an array with its own first places is the array
pub own_front : (n : ℕ) (array : List ℕ) → n ≤ length array → array ≡ overlaid (first_places n array) array
unfolding first_places
own_front n array h = rw (tabulate-get_or n array 0 h, overlaid-take n array) refl

-- a layer's state by its parts: the record with its own water and another progress
pub own_water : (r : Record) (s : State) → r.layer.frame.elements ≤ length r.layer.water → s.water ≡ first_places r.layer.frame.elements r.layer.water →
    with_parts r r.layer.water (progress_of s) ≡ with_state r s
unfolding with_state
own_water r s h e = ap (λ (w : List ℕ). with_parts r w (progress_of s)) (own_front r.layer.frame.elements r.layer.water h ∙ ap (λ (l : List ℕ). overlaid l r.layer.water) (sym e))
