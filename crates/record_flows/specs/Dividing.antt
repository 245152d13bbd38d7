-- The call that gives flows with what the division left, on any record.
use Rattle.std.specs.Prelude.{ℕ, ℤ, length, List}
use Rattle.std.specs.Prelude.{None, Some}
use Rattle.numbers.specs.Arrays.{overlaid}
use Rattle.open_faces.specs.Faces.{face_count}
use Rattle.rules.specs.declared.answers.Refusal.{Refusal}
use Rattle.std.specs.Prelude.{Result, Ok, Err}
use Rattle.rules.specs.Calls.{called}
use Rattle.rules.specs.Division.{layer_faces, face_flows, face_remainders}
use Rattle.rules.specs.Outcome.{refusal_of}
use Rattle.rules.specs.Record.{record_site, record_state}
use Rattle.rules.specs.declared.answers.Call.TheVariants.{Step}
use Rattle.rules.specs.declared.record.Record.{Record}

-- how many inner and drained faces a record has
abbrev pub entry_count : Record → ℕ
entry_count r = face_count r.layer.frame.elements r.layer.frame.top r.layer.frame.bottom

-- what it answers, and both buffers after it
pub record Dividing : Type 0 where
  pub answer : Result ℕ Refusal
  pub flows : List ℤ
  pub remainders : List ℤ

-- the entries go to the first places; places past them stay
unfoldable pub entered : Record → (t : ℕ) (flows remainders : List ℤ) → Dividing
unfolding layer_faces face_flows face_remainders record_site record_state overlaid
entered r t flows remainders = record {
  answer = Ok (length (layer_faces (record_site r) (record_state r)));
  flows = overlaid (face_flows (record_site r) (record_state r) t) flows;
  remainders = overlaid (face_remainders (record_site r) (record_state r) t) remainders;
}

-- it is refused as a step of t seconds is: 11, 13, 14, 15; then all places stay
unfoldable pub dividing : Record → (t : ℕ) (flows remainders : List ℤ) → Dividing
unfolding called refusal_of entered
dividing r t flows remainders =
    elim (refusal_of (called r (Step t)).answer) [
      | Some cause ↦ record { answer = Err cause; flows = flows; remainders = remainders }
      | None ↦ entered r t flows remainders
    ]
