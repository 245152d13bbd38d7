-- What the call answers and leaves, by the step's answer.
use Prim.Native.Nat.{ℕ}
use lib.ListN.{length}
use mathlib.Core.List.{List}
use Rattle.std.specs.Prelude.{None, Some}
use mathlib.Core.Path.{◌≡◌, sym, ap, ◌∙◌}
use Rattle.numbers.specs.Arrays.{overlaid}
use Rattle.rules.specs.Calls.{called}
use Rattle.rules.specs.Outcome.{refusal_of}
use Rattle.rules.specs.declared.answers.Answer.{Answer}
use Rattle.rules.specs.declared.answers.Answer.TheVariants.{Done, Refused}
use Rattle.rules.specs.declared.answers.Call.TheVariants.{Step}
use Rattle.rules.specs.declared.answers.Refusal.{Refusal}
use Rattle.rules.specs.declared.record.Record.{Record}
use Rattle.working.specs.Working.{words_between, working_words, Working, working}
use Rattle.std.specs.Prelude.{Result, Ok, Err}

module _ (r : Record) (t : ℕ) (out : List ℕ) where
  written : Working
  written = record { answer = Ok (length (working_words r t)); words = overlaid (working_words r t) out }

  refused_with : Refusal → Working
  refused_with cause = record { answer = Err cause; words = out }

  by : Answer → Working
  by answer = elim (refusal_of answer) [ Some cause ↦ refused_with cause | None ↦ written ]

  working_done : (called r (Step t)).answer ≡ Done → working r t out ≡ written
  unfolding working by written refused_with refusal_of
  working_done e = ap by e

  working-refused : (cause : Refusal) → (called r (Step t)).answer ≡ Refused cause → working r t out ≡ refused_with cause
  unfolding working by written refused_with refusal_of
  working-refused cause e = ap by e

  -- what the call promises of its answer and of the buffer after it
  abbrev pub Answers : Result ℕ Refusal → (words : List ℕ) → Type 0
  Answers answer words = (answer ≡ (working r t out).answer) × (words ≡ (working r t out).words)

  pub accepted : (called r (Step t)).answer ≡ Done → {after : Record} {n : ℕ} {words : List ℕ} → after ≡ (called r (Step t)).after →
      n ≡ length (words_between r after t) → words ≡ overlaid (words_between r after t) out → Answers (Ok n) words
  unfolding written working_words
  accepted done after_is count words_are =
      let is = working_done done in (
        ap Ok (count ∙ ap (λ (a : Record). length (words_between r a t)) after_is) ∙ sym (ap (λ (w : Working). w.answer) is),
        words_are ∙ ap (λ (a : Record). overlaid (words_between r a t) out) after_is ∙ sym (ap (λ (w : Working). w.words) is),
      )

  pub refused : (cause : Refusal) → (called r (Step t)).answer ≡ Refused cause → Answers (Err cause) out
  unfolding refused_with
  refused cause e =
      let is = working-refused cause e in
      (sym (ap (λ (w : Working). w.answer) is), sym (ap (λ (w : Working). w.words) is))
