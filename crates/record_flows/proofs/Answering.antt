-- What the call answers, by the step's answer, and what its entries are.
use Prim.Native.Nat.{ℕ, ◌≤◌}
use lib.IntN.{ℤ, pos}
use lib.ListN.{length, take, length-map}
use lib.Seq.{take_at}
use mathlib.Core.List.{List, []}
use Rattle.std.specs.Prelude.{None, Some}
use mathlib.Core.Path.{◌≡◌, refl, sym, ap, subst, ◌∙◌}
use native.Mathlib.Omega.{arith}
use Rattle.laws.specs.Divisions.{DividesAtEach}
use Rattle.numbers.proofs.Filled.{get_or-overlaid}
use Rattle.numbers.specs.Arrays.{overlaid}
use Rattle.record_flows.proofs.LayerFaces.{faces_count, entry_most, layer_divides}
use Rattle.record_flows.proofs.Moving.{Taken, done_taken, moves}
use Rattle.record_flows.specs.Dividing.{Dividing, entered, dividing}
use Rattle.record_flows.specs.Entries.{MovesJust, EntriesOf, LongDivision}
use Rattle.std.specs.Prelude.{Result, Ok, Err}
use Rattle.rules.specs.Calls.{called}
use Rattle.rules.specs.Division.{layer_faces, face_flows, face_remainders}
use Rattle.rules.specs.Outcome.{refusal_of}
use Rattle.rules.specs.Record.{record_site, record_state}
use Rattle.rules.specs.declared.answers.Answer.{Answer}
use Rattle.rules.specs.declared.answers.Answer.TheVariants.{Done, Refused}
use Rattle.rules.specs.declared.answers.Call.TheVariants.{Step}
use Rattle.rules.specs.declared.answers.Refusal.{Refusal}
use Rattle.rules.specs.declared.record.Record.{Record}

module _ (r : Record) (t : ℕ) (flows remainders : List ℤ) where
  refused_with : Refusal → Dividing
  refused_with cause = record { answer = Err cause; flows = flows; remainders = remainders }

  by : Answer → Dividing
  by answer = elim (refusal_of answer) [ Some cause ↦ refused_with cause | None ↦ entered r t flows remainders ]

  dividing_done : (called r (Step t)).answer ≡ Done → dividing r t flows remainders ≡ entered r t flows remainders
  unfolding dividing by refused_with refusal_of
  dividing_done e = ap by e

  dividing-refused : (cause : Refusal) → (called r (Step t)).answer ≡ Refused cause →
      dividing r t flows remainders ≡ record { answer = Err cause; flows = flows; remainders = remainders }
  unfolding dividing by refused_with refusal_of
  dividing-refused cause e = ap by e

  -- how many entries an answer tells
  abbrev told : Result ℕ Refusal → ℕ
  told (Ok n) = n
  told (Err cause) = 0

  abbrev faces : ℕ
  faces = length (layer_faces (record_site r) (record_state r))

  flows_long : length (face_flows (record_site r) (record_state r) t) ≡ faces
  unfolding face_flows
  flows_long = length-map (layer_faces (record_site r) (record_state r)) _

  remainders_long : length (face_remainders (record_site r) (record_state r) t) ≡ faces
  unfolding face_remainders
  remainders_long = length-map (layer_faces (record_site r) (record_state r)) _

  entries_divide : Taken r t → DividesAtEach t (layer_faces (record_site r) (record_state r))
      (overlaid (face_flows (record_site r) (record_state r) t) flows) (overlaid (face_remainders (record_site r) (record_state r) t) remainders)
  entries_divide taken k h =
      rw (
        get_or-overlaid (face_flows (record_site r) (record_state r) t) flows k (pos 0) (rw flows_long h),
        get_or-overlaid (face_remainders (record_site r) (record_state r) t) remainders k (pos 0) (rw remainders_long h),
      ) (layer_divides r taken.is t k h)

  own_entries : take faces (overlaid (face_flows (record_site r) (record_state r) t) flows) ≡ face_flows (record_site r) (record_state r) t
  unfolding overlaid
  own_entries = take_at (face_flows (record_site r) (record_state r) t) _ faces flows_long

  entries_of : Taken r t →
      EntriesOf r t faces (overlaid (face_flows (record_site r) (record_state r) t) flows) (overlaid (face_remainders (record_site r) (record_state r) t) remainders)
  entries_of taken = record {
    count = refl;
    divides = entries_divide taken;
    moves_just = subst (MovesJust r t) (sym own_entries) (moves r t taken);
  }

  -- what the call promises of its answer and of both buffers after it
  abbrev pub Answers : Result ℕ Refusal → (f m : List ℤ) → Type 0
  Answers answer f m =
      (answer ≡ (dividing r t flows remainders).answer) × ((f ≡ (dividing r t flows remainders).flows) ×
      ((m ≡ (dividing r t flows remainders).remainders) × LongDivision r t answer f m))

  -- what is promised of a call that is accepted, and of one that is refused
  long_division : Taken r t → {n : ℕ} {f m : List ℤ} → n ≡ faces → f ≡ overlaid (face_flows (record_site r) (record_state r) t) flows →
      m ≡ overlaid (face_remainders (record_site r) (record_state r) t) remainders → LongDivision r t (Ok n) f m
  long_division taken {n} count f-is m-is k e =
      let same : k ≡ faces = sym (ap told e) ∙ count in
      rw (same, f-is, m-is) (entries_of taken)

  no_entries : (cause : Refusal) {f m : List ℤ} → LongDivision r t (Err cause) f m
  no_entries cause k e = let differ : ◌≡◌ {A = ℕ} 0 1 = ap number e in absurd (omega arith)
    where
      number : Result ℕ Refusal → ℕ
      number (Ok n) = 1
      number (Err cause) = 0

  -- the call by the step's answer, with what it leaves in both buffers
  pub accepted : (called r (Step t)).answer ≡ Done → Taken r t → {n : ℕ} {f m : List ℤ} → n ≡ faces →
      f ≡ overlaid (face_flows (record_site r) (record_state r) t) flows → m ≡ overlaid (face_remainders (record_site r) (record_state r) t) remainders →
      Answers (Ok n) f m
  unfolding entered
  accepted done taken count f-is m-is =
      let is = dividing_done done in (
        ap Ok count ∙ sym (ap (λ (d : Dividing). d.answer) is),
        (
          f-is ∙ sym (ap (λ (d : Dividing). d.flows) is),
          (m-is ∙ sym (ap (λ (d : Dividing). d.remainders) is), long_division taken count f-is m-is),
        ),
      )

  pub refused : (cause : Refusal) → (called r (Step t)).answer ≡ Refused cause → Answers (Err cause) flows remainders
  refused cause e =
      let is = dividing-refused cause e in (
        sym (ap (λ (d : Dividing). d.answer) is),
        (sym (ap (λ (d : Dividing). d.flows) is), (sym (ap (λ (d : Dividing). d.remainders) is), no_entries cause)),
      )

-- no call has more entries than 129
pub entries_most : (r : Record) (t : ℕ) {n : ℕ} {f m : List ℤ} → EntriesOf r t n f m → n ≤ 129
entries_most r t entries =
    let is = (done_taken r t entries.moves_just.taken).is in
    rw (entries.count ∙ sym (faces_count r is [] [])) (entry_most r is)
