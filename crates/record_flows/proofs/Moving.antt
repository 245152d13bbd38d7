-- A step that is taken: what it asks, and the flows that it moves.
use Prim.Native.Nat.{ℕ, ◌+◌, ◌≤◌}
use lib.IntN.{ℤ, pos, ◌+ℤ◌, ◌-ℤ◌}
use lib.ListN.{length}
use mathlib.Core.Bool.{Bool, true, false}
use mathlib.Core.List.{List, [], ◌∷◌}
use Rattle.std.specs.Prelude.{Option, None, Some}
use mathlib.Core.Path.{◌≡◌, refl, sym, ap, subst, ◌∙◌}
use native.Mathlib.Omega.{arith}
use Rattle.claims.proofs.Fixed.{state_after}
use Rattle.record_flows.specs.Entries.{MovesJust}
use Rattle.laws.proofs.Lengths.{elements_length, stepped-length}
use Rattle.laws.proofs.OpenFaces.{any_step_takes}
use Rattle.laws.specs.Divisions.{all_upward}
use Rattle.lent.proofs.CallLaws.{not_layer, on_layer, refused_on_layer}
use Rattle.lent.proofs.StepLaws.{by_refusal, step_length_outside}
use Rattle.lent.proofs.Standing.{counted}
use Rattle.numbers.proofs.Filled.{first_length}
use Rattle.numbers.proofs.Searches.{passed}
use Rattle.numbers.specs.Lists.{paired, first_or, last_or}
use Rattle.quantities.proofs.Limits.{within_parts}
use Rattle.quantities.specs.Quantities.{within, step_limits}
use Rattle.rules.specs.Calls.{called}
use Rattle.rules.specs.Division.{layer_faces, face_flows}
use Rattle.rules.specs.Layer.{State, read_elements}
use Rattle.rules.specs.Record.{record_site, record_state, with_events, is_layer}
use Rattle.rules.specs.Run.{step_taken, after_events}
use Rattle.rules.specs.Step.{upward_flows, moved, new_height, stepped, step_refusal}
use Rattle.rules.specs.declared.answers.Answer.{Answer}
use Rattle.rules.specs.declared.answers.Answer.TheVariants.{Done, Ran, Refused}
use Rattle.rules.specs.declared.answers.Answered.{Answered}
use Rattle.rules.specs.declared.answers.Call.TheVariants.{Step}
use Rattle.rules.specs.declared.answers.Refusal.{Refusal}
use Rattle.rules.specs.declared.answers.Refusal.TheVariants.{NoLayer, StepOutside}
use Rattle.rules.specs.declared.answers.Stop.{Stop}
use Rattle.rules.specs.declared.record.Record.{Record}

-- answers of different kinds differ
abbrev kind : Answer → ℕ
kind Done = 0
kind (Ran stop steps) = 1
kind (Refused cause) = 2

-- what a step answers on any record: a refusal, or done
module _ (r : Record) (t : ℕ) where
  pub record Taken : Type 0 where
    pub is : is_layer r ≡ true
    pub free : step_refusal (record_site r) (record_state r) t ≡ None

  by_answer : (P : Answer → Type 0) → ((cause : Refusal) → P (Refused cause)) → (Taken → P Done) → P (called r (Step t)).answer
  by_answer P otherwise done = go (is_layer r) refl
    where
      here : {a : Answered} → called r (Step t) ≡ a → P a.answer → P (called r (Step t)).answer
      here e p = subst (λ (a : Answered). P a.answer) (sym e) p

      free : is_layer r ≡ true → (cause : Option Refusal) → step_refusal (record_site r) (record_state r) t ≡ cause → P (called r (Step t)).answer
      free is (Some cause) e = here (refused_on_layer r (Step t) cause is (by_refusal (record_site r) (record_state r) t (Some cause) e)) (otherwise cause)
      free is None e = here (on_layer r (Step t) _ is (by_refusal (record_site r) (record_state r) t None e)) (done (record { is = is; free = e }))

      go : (b : Bool) → is_layer r ≡ b → P (called r (Step t)).answer
      go false e = here (not_layer r (Step t) e) (otherwise NoLayer)
      go true e = free e (step_refusal (record_site r) (record_state r) t) refl

  pub done_taken : (called r (Step t)).answer ≡ Done → Taken
  done_taken =
      by_answer (λ a. a ≡ Done → Taken)
      (λ cause e. let differ : ◌≡◌ {A = ℕ} 2 0 = ap kind e in absurd (omega arith))
      (λ taken _. taken)

  pub never_ran : {A : Type 0} (stop : Stop) (steps : ℕ) → (called r (Step t)).answer ≡ Ran stop steps → A
  never_ran {A} stop steps =
      by_answer (λ a. a ≡ Ran stop steps → A)
      (λ cause e. let differ : ◌≡◌ {A = ℕ} 2 1 = ap kind e in absurd (omega arith))
      (λ taken e. let differ : ◌≡◌ {A = ℕ} 0 1 = ap kind e in absurd (omega arith))

  -- ---- a step that is taken

  module _ (taken : Taken) where
    after_is : called r (Step t) ≡ record { answer = Done; after = with_events r (step_taken t ∷ []) }
    after_is = on_layer r (Step t) _ taken.is (by_refusal (record_site r) (record_state r) t None taken.free)

    -- it is no longer than the longest
    pub short : t ≤ step_limits.most
    short = go (within step_limits t) refl
      where
        go : (b : Bool) → within step_limits t ≡ b → t ≤ step_limits.most
        go true e = (within_parts step_limits t (passed e)).1
        go false e =
            let refusal = refused_on_layer r (Step t) StepOutside taken.is (step_length_outside (record_site r) (record_state r) t e) in
            let differ : ◌≡◌ {A = ℕ} 2 0 = ap (λ (a : Answered). kind a.answer) (sym refusal ∙ after_is) in
            absurd (omega arith)

    -- its flows are those of the faces
    flows_taken : upward_flows r.layer.frame.top r.layer.frame.bottom t (read_elements (record_site r) (record_state r)) ≡
        all_upward r.layer.frame.top r.layer.frame.bottom (face_flows (record_site r) (record_state r) t)
    unfolding face_flows layer_faces record_site record_state
    flows_taken =
        any_step_takes r.layer.frame.top t r.layer.frame.bottom (read_elements (record_site r) (record_state r))
        (rw (elements_length (record_site r) (record_state r) long ∙ first_length r.layer.frame.elements r.layer.water) (counted r taken.is).0)
      where
        long : length (record_state r).water ≡ length (record_site r).solids
        long = first_length r.layer.frame.elements r.layer.water ∙ sym (first_length r.layer.frame.elements r.layer.solids)

    pub moves : MovesJust r t (face_flows (record_site r) (record_state r) t)
    unfolding stepped after_events record_site record_state
    moves = record {
      taken = ap (λ (a : Answered). a.answer) after_is;
      moves =
          ap (λ (a : Answered). record_state a.after) after_is ∙
          state_after r (step_taken t ∷ []) (stepped-length (record_site r) t (record_state r) long ∙ first_length r.layer.frame.elements r.layer.water) ∙
          ap (moved_by (record_state r)) flows_taken;
    }
      where
        long : length (record_state r).water ≡ length (record_site r).solids
        long = first_length r.layer.frame.elements r.layer.water ∙ sym (first_length r.layer.frame.elements r.layer.solids)

        moved_by : State → List ℤ → State
        moved_by s upward = record {
          water = paired new_height s.water (moved upward s.water);
          load = s.load;
          clock = s.clock + t;
          top_outflow = s.top_outflow +ℤ last_or (pos 0) upward;
          bottom_outflow = s.bottom_outflow -ℤ first_or (pos 0) upward;
        }
