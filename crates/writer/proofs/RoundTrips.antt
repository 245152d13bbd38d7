-- Both round trips of the writer hold, whatever the description and the buffer.
use Prim.Native.Nat.{ℕ, ◌≤◌}
use native.Mathlib.Omega.{arith}
use borrow.Author.Tests.{ltb-true, ltb-false}
use lib.Dec.{ltb}
use lib.ListN.{length, take, drop}
use lib.Seq.{take_at}
use mathlib.Core.Bool.{Bool, true, false}
use mathlib.Core.List.{List}
use mathlib.Core.Path.{◌≡◌, refl, sym, ap, subst, ◌∙◌}
use Rattle.numbers.specs.Arrays.{overlaid}
use Rattle.numbers.specs.Bytes.{AreBytes}
use Rattle.rules.specs.Job.{Description, described, job_length}
use Rattle.rules.specs.Opening.{accepted, opening}
use Rattle.rules.specs.declared.answers.Accepted.{Accepted}
use Rattle.std.specs.Prelude.{Result, Ok, Err}
use Rattle.rules.specs.declared.answers.Answer.TheVariants.{Done}
use Rattle.rules.specs.declared.answers.Refusal.{Refusal}
use Rattle.rules.specs.declared.answers.Refusal.TheVariants.{ShortJobBuffer}
use Rattle.writer.specs.RoundTrips.{ReadAgain, RoundTrips, up_to_counts}
use Rattle.writer.specs.Writing.{Writing, job_bytes, refused_writing, writing}
use Rattle.writer.proofs.Counted.{accepted_kept, bytes_kept, described_counted}
use Rattle.writer.proofs.ReadAgain.{read_again}
use Rattle.writer.proofs.Stores.{job_length_lem}
use Rattle.writer.proofs.WritingLaws.{cause_writes, room_writes, short_writes}
use Rattle.writer.proofs.WrittenAgain.{accepted_again, written_again}

refused-length : (cause : Refusal) (size : ℕ) → Err cause ≡ Ok size → ⊥
refused-length cause size e = cc

module _ (d : Description) (before : List ℕ) where
  abbrev w : Writing
  w = writing d before

  -- a refused description is not written
  refused : (cause : Refusal) → w ≡ refused_writing cause before → (size : ℕ) → w.answer ≡ Ok size → ⊥
  refused cause e size is = refused-length cause size (sym (ap (λ (x : Writing). x.answer) e) ∙ is)

  reads : (size : ℕ) → w.answer ≡ Ok size → ReadAgain d (take size w.buffer)
  unfolding overlaid
  reads size is = by_acceptance (accepted d) refl
    where
      by_room : {layer : Accepted} → accepted d ≡ Ok layer → (short : Bool) → ltb (length before) (job_length d.header) ≡ short →
          ReadAgain d (take size w.buffer)
      by_room e true s = absurd (refused ShortJobBuffer (short_writes d before e (ltb-true _ _ s)) size is)
      by_room e false s =
          let whole = room_writes d before e (ltb-false _ _ s) in
          let told : Ok (job_length d.header) ≡ Ok size = sym (ap (λ (x : Writing). x.answer) whole) ∙ is in
          let sized : job_length d.header ≡ size = cc in
          subst (ReadAgain d)
          (sym (ap (λ (x : Writing). take size x.buffer) whole ∙ take_at (job_bytes d) (drop (length (job_bytes d)) before) size (job_length_lem d ∙ sized)))
          (read_again d e)

      by_acceptance : (a : Result Accepted Refusal) → accepted d ≡ a → ReadAgain d (take size w.buffer)
      by_acceptance (Err cause) e = absurd (refused cause (cause_writes d before e) size is)
      by_acceptance (Ok layer) e = by_room e (ltb (length before) (job_length d.header)) refl

  writes : (job : List ℕ) → AreBytes job → (opening job).answer ≡ Done → up_to_counts (described job) ≡ up_to_counts d → length job ≤ length before →
      (w.answer ≡ Ok (length job)) × (w.buffer ≡ overlaid job before)
  writes job are done alike room =
      let same = described_counted job ∙ alike in
      let (layer, again) = accepted_again job are done in
      let is : accepted d ≡ Ok layer = sym (accepted_kept d) ∙ ap accepted (sym same) ∙ again in
      let bytes_are : job_bytes d ≡ job = sym (bytes_kept d) ∙ ap job_bytes (sym same) ∙ written_again job are done in
      let sized : job_length d.header ≡ length job = sym (job_length_lem d) ∙ ap length bytes_are in
      let whole = room_writes d before is (omega arith) in
      (ap (λ (x : Writing). x.answer) whole ∙ ap Ok sized, ap (λ (x : Writing). x.buffer) whole ∙ ap (λ (l : List ℕ). overlaid l before) bytes_are)

  pub round_trips : RoundTrips d before w.answer w.buffer
  round_trips = record { written_then_read = reads; read_then_written = writes }

-- writing what an accepted job says gives its bytes again
pub rewritten : (job buffer : List ℕ) → AreBytes job → (opening job).answer ≡ Done → length job ≤ length buffer →
    writing (described job) buffer ≡ record { answer = Ok (length job); buffer = overlaid job buffer }
rewritten job buffer are done room =
    let (answer-is, buffer_is) = writes (described job) buffer job are done refl room in
    λ i. record { answer = answer-is i; buffer = buffer_is i }
