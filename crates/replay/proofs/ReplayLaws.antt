-- A replay call by call, and a replay by what opening answered.
use Prim.Native.Nat.{ℕ, suc, ◌+◌, ◌*◌, ◌≤◌}
use native.Mathlib.Omega.{arith}
use lib.ListN.{length}
use lib.Seq.{sets}
use mathlib.Core.List.{List, [], ◌∷◌, ◌++◌}
use mathlib.Core.Logic.{⊎_elim}
use mathlib.Core.Path.{◌≡◌, refl, ap, ◌∙◌}
use Rattle.claims.proofs.Opened.{opening_either}
use Rattle.numbers.specs.Arrays.{tabulate, overlaid}
use Rattle.numbers.proofs.Filled.{length-tabulate, tabulate_more}
use Rattle.replay.specs.Replaying.{replay_on, written_on, replay_opened, replaying}
use Rattle.replay.proofs.WordLaws.{sets_overlaid, words_more, words_length}
use Rattle.replay.specs.Words.{call_at, call_count, calls_in, answer_words, all_words}
use Rattle.rules.specs.Calls.{called, replayed}
use Rattle.rules.specs.Opening.{refused_opening, opening}
use Rattle.rules.specs.Outcome.{refusal_of}
use Rattle.rules.specs.declared.answers.Answer.{Answer}
use Rattle.rules.specs.declared.answers.Answer.TheVariants.{Done, Ran, Refused}
use Rattle.rules.specs.declared.answers.Answered.{Answered}
use Rattle.rules.specs.declared.answers.Call.{Call}
use Rattle.rules.specs.declared.answers.Refusal.{Refusal}
use Rattle.rules.specs.declared.answers.Stop.{Stop}
use Rattle.rules.specs.declared.record.Record.{Record}

-- one call more is made on the record as those before left it
pub after_more : (calls : List Call) (call : Call) (r : Record) →
    (replayed r (calls ++ (call ∷ []))).after ≡ (called (replayed r calls).after call).after
unfolding replayed
after_more [] call r = refl
after_more (first ∷ rest) call r = after_more rest call (called r first).after

-- and its answer comes last
pub answers_more : (calls : List Call) (call : Call) (r : Record) →
    (replayed r (calls ++ (call ∷ []))).answers ≡ (replayed r calls).answers ++ ((called (replayed r calls).after call).answer ∷ [])
unfolding replayed
answers_more [] call r = refl
answers_more (first ∷ rest) call r =
    ap (λ (answers : List Answer). (called r first).answer ∷ answers) (answers_more rest call (called r first).after)

-- an answer a call
pub answers_length : (calls : List Call) (r : Record) → length (replayed r calls).answers ≡ length calls
unfolding replayed
answers_length [] r = refl
answers_length (first ∷ rest) r = ap suc (answers_length rest (called r first).after)

-- ---- the loop

-- after i calls: the record that they leave, and the slice with the words of their answers
pub record Replays (r : Record) (words slice : List ℕ) (i : ℕ) (layer : Record) (out : List ℕ) : Type 0 where
  pub left : layer ≡ (replayed r (tabulate i (call_at words))).after
  pub written : out ≡ overlaid (all_words (replayed r (tabulate i (call_at words))).answers) slice

pub replays_none : (r : Record) (words slice : List ℕ) → Replays r words slice 0 r slice
unfolding tabulate replayed all_words overlaid
replays_none r words slice = record { left = refl; written = refl }

module _ (r : Record) (words slice : List ℕ) (i : ℕ) (layer : Record) (out : List ℕ) (h : Replays r words slice i layer out) where
  -- one call more
  pub replays_more : 3 * i + 3 ≤ length slice →
      (next : Record) (more : List ℕ) → next ≡ (called layer (call_at words i)).after →
      more ≡ sets out (3 * i) (answer_words (called layer (call_at words i)).answer) → Replays r words slice (i + 1) next more
  replays_more room next more e k =
      let calls = tabulate i (call_at words) in
      let answers = (replayed r calls).answers in
      let long : length (all_words answers) ≡ 3 * i = rw (words_length answers, answers_length calls r, length-tabulate i (call_at words)) in
      record {
        left = rw (tabulate_more i (call_at words), after_more calls (call_at words i) r, ← h.left) e;
        written =
            k ∙
            rw (tabulate_more i (call_at words), answers_more calls (call_at words i) r, ← h.left, words_more answers, h.written, ← long)
            (sets_overlaid (all_words answers) (answer_words (called layer (call_at words i)).answer) slice (rw long room));
      }

  -- all calls made
  pub replays_all : i ≡ call_count (length words) (length slice) →
      (layer ≡ (replay_on r words slice).after) × (out ≡ written_on r words slice)
  unfolding replay_on written_on calls_in
  replays_all e = (rw (← e) h.left, rw (← e) h.written)

-- ---- by what opening answered

replay_refused : (words slice : List ℕ) (cause : Refusal) →
    (refused_opening cause ≡ (replay_opened (refused_opening cause) words slice).given) ×
    (slice ≡ (replay_opened (refused_opening cause) words slice).slice)
unfolding replay_opened refusal_of refused_opening
replay_refused words slice cause = (refl, refl)

replay_opened_lem : (words slice : List ℕ) (o : Answered) → o.answer ≡ Done →
    (record { answer = Done; after = (replay_on o.after words slice).after } ≡ (replay_opened o words slice).given) ×
    (written_on o.after words slice ≡ (replay_opened o words slice).slice)
unfolding replay_opened refusal_of
replay_opened_lem words slice o e = (rw e, rw e)

module _ (job words slice : List ℕ) (o : Answered) (opens : o ≡ opening job) where
  -- a job that opening is done with
  pub replay_done : o.answer ≡ Done → (after : Record) (out : List ℕ) →
      after ≡ (replay_on o.after words slice).after → out ≡ written_on o.after words slice →
      (record { answer = Done; after = after } ≡ (replaying job words slice).given) × (out ≡ (replaying job words slice).slice)
  replay_done done after out e k =
      let (given, written) = replay_opened_lem words slice o done in
      (rw (e, ← opens) given, rw (k, ← opens) written)

  -- a job that it is not done with is refused
  pub replay_not_done : (o.answer ≡ Done → ⊥) →
      (o ≡ (replaying job words slice).given) × (slice ≡ (replaying job words slice).slice)
  replay_not_done not =
      ⊎_elim
      (λ (cause, refuses). rw (opens, refuses) (replay_refused words slice cause))
      (λ done. absurd (not (rw opens done)))
      (opening_either job)

-- neither a run nor a refusal is done
pub ran_not_done : (answer : Answer) (stop : Stop) (steps : ℕ) → answer ≡ Ran stop steps → answer ≡ Done → ⊥
ran_not_done answer stop steps e k = let z : ◌≡◌ {A = ℕ} 0 1 = cc in omega arith

pub refused_not_done : (answer : Answer) (cause : Refusal) → answer ≡ Refused cause → answer ≡ Done → ⊥
refused_not_done answer cause e k = let z : ◌≡◌ {A = ℕ} 0 1 = cc in omega arith
