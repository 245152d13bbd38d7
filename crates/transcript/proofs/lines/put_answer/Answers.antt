use Prim.Native.Nat.{ℕ, ◌<◌, ◌≤◌}
use native.Mathlib.Omega.{arith}
use borrow.Author.Tests.{lt-ltb, le-ltb, eq-eqb, ne_eqb}
use mathlib.Core.List.{◌++◌}
use mathlib.Core.Path.{◌≡◌}
use Rattle.text.proofs.Laws.{put_put}
use Rattle.text.specs.Text.{spaced}
use Rattle.transcript.specs.Lines.{answer_text}
use Rattle.transcript.proofs.lines.put_answer.Goals as goal

refused : (kind number stop steps : ℕ) → (number ≡ 0 → ⊥) → answer_text kind number stop steps ≡ spaced number
unfolding answer_text
refused kind number stop steps h = simp (ne_eqb number 0 h, answer_text)

no_run : (kind number stop steps : ℕ) → number ≡ 0 → kind < 2 → answer_text kind number stop steps ≡ spaced number
unfolding answer_text
no_run kind number stop steps h k = simp (eq-eqb number 0 h, lt-ltb kind 2 k, answer_text)

ran : (kind number stop steps : ℕ) → number ≡ 0 → 2 ≤ kind →
    answer_text kind number stop steps ≡ spaced number ++ spaced stop ++ spaced steps
unfolding answer_text
ran kind number stop steps h k = simp (eq-eqb number 0 h, le-ltb kind 2 k, answer_text)

pub returns-then-number-ne0-clause-put : goal.returns-then-number-ne0-clause-put
returns-then-number-ne0-clause-put c = rw (refused _ _ _ _ c.if-number-ne0.true) c.put_number-next.ensures.put

pub returns-then-kind-lt2-clause-put : goal.returns-then-kind-lt2-clause-put
returns-then-kind-lt2-clause-put c = rw (no_run c.args.kind _ _ _ c.if-number-ne0.false (omega arith)) c.put_number-next.ensures.put

pub returns-clause-put : goal.returns-clause-put
returns-clause-put c =
    rw (ran c.args.kind _ _ _ c.if-number-ne0.false (omega arith))
    (put_put (put_put c.put_number-next.ensures.put c.put_number-last.ensures.put) c.put_number.ensures.put)
