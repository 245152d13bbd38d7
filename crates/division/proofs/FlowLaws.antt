-- What is returned and left by the call, by the room of both buffers, and by what opening answers.
use Prim.Native.Nat.{ℕ, ◌≤◌, ◌<◌}
use borrow.Author.Tests.{lt-ltb, le-ltb}
use lib.IntN.{ℤ}
use lib.ListN.{length}
use mathlib.Core.Bool.{Bool, true, false}
use mathlib.Core.List.{List, [], ◌∷◌}
use mathlib.Core.Logic.{⊎_elim}
use Rattle.std.specs.Prelude.{None, Some}
use mathlib.Core.Path.{◌≡◌, refl, sym, ap, ◌∙◌}
use native.Mathlib.Omega.{arith}
use Rattle.claims.proofs.Opened.{opening_either, opened_record_lem}
use Rattle.claims.proofs.Stands.{stands_layer}
use Rattle.division.specs.JobFlows.{JobFlows, job_run, divided_number, refused_flows, call_flows, no_room, run_to_flows, job_flows}
use Rattle.record_flows.specs.Dividing.{entry_count, dividing}
use Rattle.std.specs.Prelude.{Result}
use Rattle.rules.specs.Calls.{called}
use Rattle.rules.specs.Opening.{refused_opening, opening}
use Rattle.rules.specs.Outcome.{outcome, refusal_of}
use Rattle.rules.specs.Record.{record_site, record_state, with_state, with_events, is_layer}
use Rattle.rules.specs.Run.{Event}
use Rattle.rules.specs.declared.answers.Answer.{Answer}
use Rattle.rules.specs.declared.answers.Answer.TheVariants.{Done, Ran, Refused}
use Rattle.rules.specs.declared.answers.Answered.{Answered}
use Rattle.rules.specs.Job.{described}
use Rattle.rules.specs.declared.answers.Call.{Call}
use Rattle.rules.specs.declared.answers.Call.TheVariants.{Run}
use Rattle.rules.specs.declared.answers.Refusal.{Refusal}
use Rattle.rules.specs.declared.answers.Refusal.TheVariants.{NoLayer, ShortBuffer}
use Rattle.rules.specs.declared.answers.Stop.{Stop}
use Rattle.rules.specs.declared.record.Record.{Record}

-- a number and both buffers are what is asked
abbrev pub Returns : JobFlows → ℤ → (f m : List ℤ) → Type 0
Returns asked number f m = (number ≡ asked.number) × ((f ≡ asked.flows) × (m ≡ asked.remainders))

pub returns_as : {asked other : JobFlows} {number : ℤ} {f m : List ℤ} → other ≡ asked → Returns asked number f m → Returns other number f m
returns_as e told = rw e told

module _ (r : Record) (t : ℕ) (flows remainders : List ℤ) where
  -- the call
  pub call_returns : {answer : Result ℕ Refusal} {number : ℤ} {f m : List ℤ} → answer ≡ (dividing r t flows remainders).answer →
      f ≡ (dividing r t flows remainders).flows → m ≡ (dividing r t flows remainders).remainders → number ≡ divided_number answer →
      Returns (call_flows r t flows remainders) number f m
  unfolding call_flows
  call_returns is f-is m-is told = (told ∙ ap divided_number is, (f-is, m-is))

-- ---- the room

module _ (job : List ℕ) (r : Record) (t : ℕ) (flows remainders : List ℤ) where
  pub short_flows : length flows < entry_count r → run_to_flows job r t flows remainders ≡ refused_flows ShortBuffer flows remainders
  unfolding run_to_flows no_room
  short_flows h = rw (lt-ltb _ _ h) refl

  pub short_remainders : entry_count r ≤ length flows → length remainders < entry_count r →
      run_to_flows job r t flows remainders ≡ refused_flows ShortBuffer flows remainders
  unfolding run_to_flows no_room
  short_remainders room h = rw (le-ltb _ _ room, lt-ltb _ _ h) refl

  pub room_enough : entry_count r ≤ length flows → entry_count r ≤ length remainders →
      run_to_flows job r t flows remainders ≡ call_flows (job_run job r) t flows remainders
  unfolding run_to_flows no_room
  room_enough room long = rw (le-ltb _ _ room, le-ltb _ _ long) refl

-- a call leaves the faces and the number of elements
events_count : (r : Record) (es : List Event) → entry_count (with_events r es) ≡ entry_count r
unfolding with_events with_state
events_count r [] = refl
events_count r (e ∷ rest) = refl

call_count : (r : Record) (call : Call) → entry_count (called r call).after ≡ entry_count r
unfolding called
call_count r call = go (is_layer r)
  where
    go : (b : Bool) → entry_count (elim b as (λ _. Answered) [
      | false ↦ record { answer = Refused NoLayer; after = r }
      | true ↦
          record {
            answer = (outcome (record_site r) (record_state r) call).answer;
            after = with_events r (outcome (record_site r) (record_state r) call).events;
          }
    ]).after ≡ entry_count r
    go false = refl
    go true = events_count r (outcome (record_site r) (record_state r) call).events

pub run_count : (job : List ℕ) (r : Record) → entry_count (job_run job r) ≡ entry_count r
unfolding job_run
run_count job r = call_count r (Run (described job).header.end (described job).header.budget)

-- ---- what opening answers

module _ (job : List ℕ) (t : ℕ) (flows remainders : List ℤ) where
  by : Answer → JobFlows
  by answer =
      elim (refusal_of answer) [
        | Some cause ↦ refused_flows cause flows remainders
        | None ↦ run_to_flows job (opening job).after t flows remainders
      ]

  pub job_refused : (cause : Refusal) → (opening job).answer ≡ Refused cause → job_flows job t flows remainders ≡ refused_flows cause flows remainders
  unfolding job_flows by refusal_of
  job_refused cause e = ap by e

  pub job_opened : (opening job).answer ≡ Done → job_flows job t flows remainders ≡ run_to_flows job (opening job).after t flows remainders
  unfolding job_flows by refusal_of
  job_opened e = ap by e

pub opened_layer : (job : List ℕ) → (opening job).answer ≡ Done → is_layer (opening job).after ≡ true
opened_layer job e = stands_layer _ _ _ _ (opened_record_lem job e)

-- answers of different kinds differ
kind : Answer → ℕ
kind Done = 0
kind (Ran stop steps) = 1
kind (Refused cause) = 2

pub never_ran : {A : Type 0} (job : List ℕ) (stop : Stop) (steps : ℕ) → (opening job).answer ≡ Ran stop steps → A
unfolding refused_opening kind
never_ran job stop steps e =
    ⊎_elim
    (λ told. let differ : ◌≡◌ {A = ℕ} 2 1 = ap kind (sym (ap (λ (a : Answered). a.answer) told.1) ∙ e) in absurd (omega arith))
    (λ done. let differ : ◌≡◌ {A = ℕ} 0 1 = ap kind (sym done ∙ e) in absurd (omega arith))
    (opening_either job)
