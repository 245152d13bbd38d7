-- What is written for a step on a record, and for one on the layer that a job's run leaves.
use Prim.Native.Nat.{ℕ, ◌*◌, ◌≤◌}
use lib.ListN.{length, take, length-append}
use lib.Seq.{take_at}
use mathlib.Core.List.{List, ◌++◌}
use Rattle.std.specs.Prelude.{Option, None, Some}
use mathlib.Core.Path.{◌≡◌, refl, sym, ap, ◌∙◌}
use native.Mathlib.Omega.{arith}
use Rattle.division.specs.JobFlows.{job_run}
use Rattle.long_division.specs.DivisionOutput.{worked_output, division_output}
use Rattle.numbers.specs.Arrays.{overlaid}
use Rattle.rules.specs.Calls.{called}
use Rattle.rules.specs.Opening.{opening}
use Rattle.rules.specs.Outcome.{refusal_of}
use Rattle.rules.specs.Program.{refused_line}
use Rattle.rules.specs.Refusals.{refusal_number}
use Rattle.rules.specs.declared.answers.Answer.{Answer}
use Rattle.rules.specs.declared.answers.Answer.TheVariants.{Done, Refused}
use Rattle.rules.specs.declared.answers.Call.TheVariants.{Step}
use Rattle.rules.specs.declared.answers.Refusal.{Refusal}
use Rattle.rules.specs.declared.record.Record.{Record}
use Rattle.words.proofs.WordBytes.{length-bytes_of}
use Rattle.words.specs.Words.{bytes_of}
use Rattle.working.specs.Working.{Working, working_words, working}
use Rattle.std.specs.Prelude.{Result, Ok, Err}

-- what is no longer than a front is no longer than the array
pub front : (n : ℕ) (lent rest : List ℕ) → n ≤ length lent → n ≤ length (lent ++ rest)
front n lent rest h = simp length-append (omega arith)

-- ---- a step on a record

abbrev pub Written : (line out last : List ℕ) → ℕ → Type 0
Written line out last size = (last ≡ overlaid line out) × (size ≡ length line)

module _ (r : Record) (t : ℕ) (out : List ℕ) where
  abbrev cause? : Option Refusal
  cause? = refusal_of (called r (Step t)).answer

  abbrev working_by : Option Refusal → Working
  working_by o = elim o [
    | Some cause ↦ record { answer = Err cause; words = out }
    | None ↦ record { answer = Ok (length (working_words r t)); words = overlaid (working_words r t) out }
  ]

  abbrev output_by : Option Refusal → List ℕ
  output_by o = elim o [ Some cause ↦ refused_line (refusal_number cause) | None ↦ bytes_of (working_words r t) ]

  working_is : (o : Option Refusal) → cause? ≡ o → (working r t out ≡ working_by o) × (worked_output r t ≡ output_by o)
  unfolding working worked_output
  working_is o e = (ap working_by e, ap output_by e)

  -- how many words an answer tells, and which cause
  abbrev told : Result ℕ Refusal → ℕ
  told (Ok n) = n
  told (Err cause) = 0

  abbrev kind : Result ℕ Refusal → ℕ
  kind (Ok n) = 0
  kind (Err cause) = 1

  abbrev number : Result ℕ Refusal → ℕ
  number (Ok n) = 0
  number (Err cause) = refusal_number cause

  pub words_told : {n : ℕ} {last : List ℕ} → Ok n ≡ (working r t out).answer → last ≡ (working r t out).words →
      Written (working_words r t) out last n × (worked_output r t ≡ bytes_of (working_words r t))
  words_told {n} {last} is last-is = go cause? refl
    where
      go : (o : Option Refusal) → cause? ≡ o → Written (working_words r t) out last n × (worked_output r t ≡ bytes_of (working_words r t))
      go None e =
          let (w, output) = working_is None e in
          ((last-is ∙ ap (λ (x : Working). x.words) w, ap told (is ∙ ap (λ (x : Working). x.answer) w)), output)
      go (Some cause) e =
          let (w, output) = working_is (Some cause) e in
          let differ : ◌≡◌ {A = ℕ} 0 1 = ap kind (is ∙ ap (λ (x : Working). x.answer) w) in
          absurd (omega arith)

  pub refusal_told : (cause : Refusal) → Err cause ≡ (working r t out).answer → worked_output r t ≡ refused_line (refusal_number cause)
  refusal_told cause is = go cause? refl
    where
      go : (o : Option Refusal) → cause? ≡ o → worked_output r t ≡ refused_line (refusal_number cause)
      go None e =
          let (w, output) = working_is None e in
          let differ : ◌≡◌ {A = ℕ} 1 0 = ap kind (is ∙ ap (λ (x : Working). x.answer) w) in
          absurd (omega arith)
      go (Some other) e =
          let (w, output) = working_is (Some other) e in
          let same : refusal_number cause ≡ refusal_number other = ap number (is ∙ ap (λ (x : Working). x.answer) w) in
          output ∙ ap refused_line (sym same)

-- the bytes of the words in an array's front
pub bytes_written : (words line entry all out last : List ℕ) (n size : ℕ) → Written words entry all n → line ≡ bytes_of words →
    last ≡ overlaid (bytes_of (take n all)) out → size ≡ 8 * n → Written line out last size
unfolding overlaid
bytes_written words line entry all out last n size all-is line-is last-is size_is =
    let own : take n all ≡ words = rw (all-is.0, all-is.1) (take_at words _ (length words) refl) in
    rw (line-is, ← own) (last-is, size_is ∙ ap (λ (k : ℕ). 8 * k) (all-is.1 ∙ ap length (sym own)) ∙ sym (length-bytes_of (take n all)))

pub line_written : (line other out last : List ℕ) (size : ℕ) → line ≡ other → Written other out last size → Written line out last size
line_written line other out last size e told = rw e told

-- ---- a step on the layer that a job's run leaves

module _ (job : List ℕ) (t : ℕ) where
  abbrev by : Answer → List ℕ
  by answer = elim (refusal_of answer) [ Some cause ↦ refused_line (refusal_number cause) | None ↦ worked_output (job_run job (opening job).after) t ]

  pub opened_output : (opening job).answer ≡ Done → division_output job t ≡ worked_output (job_run job (opening job).after) t
  unfolding division_output refusal_of
  opened_output e = ap by e

  pub refused_output : (cause : Refusal) → (opening job).answer ≡ Refused cause → division_output job t ≡ refused_line (refusal_number cause)
  unfolding division_output refusal_of
  refused_output cause e = ap by e
