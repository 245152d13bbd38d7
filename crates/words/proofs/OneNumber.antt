-- One number tells a written job from a refusal: it is the job's length, or the refusal's number.
use Prim.Native.Nat.{ℕ, ◌≤◌, ◌<◌}
use native.Mathlib.Decide.{dec_le}
use native.Mathlib.Omega.{arith}
use lib.ListN.{length, take}
use lib.Seq.{take-append_seam}
use mathlib.Core.List.{List}
use mathlib.Core.Path.{◌≡◌, refl, ap}
use Rattle.answers.proofs.Causes.{cause_numbered}
use Rattle.numbers.specs.Arrays.{overlaid}
use Rattle.rules.specs.Job.{Description, header_length, job_length}
use Rattle.rules.specs.Opening.{accepted}
use Rattle.rules.specs.Refusals.{refusal_number}
use Rattle.rules.specs.Result.{Returned}
use Rattle.rules.specs.declared.answers.Accepted.{Accepted}
use Rattle.std.specs.Prelude.{Result, Ok, Err}
use Rattle.rules.specs.declared.answers.Refusal.{Refusal}
use Rattle.rules.specs.declared.answers.Refusal.TheVariants.{ShortJobBuffer}
use Rattle.rules.specs.declared.job.Header.{Header}
use Rattle.words.specs.Words.{WordsTrips, words_description, written_words}
use Rattle.writer.proofs.RoundTrips.{round_trips}
use Rattle.writer.proofs.Stores.{job_length_lem}
use Rattle.writer.proofs.WritingLaws.{cause_writes, short_writes, room_writes}
use Rattle.writer.specs.RoundTrips.{ReadAgain}
use Rattle.writer.specs.Writing.{Writing, job_bytes, writing, written_number, writing_number}

-- the number of every refusal is below a header's length, and no job is shorter than that
pub refusal_below_length : (cause : Refusal) (h : Header) → (refusal_number cause < header_length) × (header_length ≤ job_length h)
unfolding job_length
refusal_below_length cause h = let (_, most) = cause_numbered cause in (omega arith, omega arith)

-- what the number tells of a buffer: it is left whole, or so many bytes at its beginning are written
pub record Told (buffer : List ℕ) (x : Returned) : Type 0 where
  pub refused_whole : x.number < header_length → x.buffer ≡ buffer
  pub fits : header_length ≤ x.number → x.number ≤ length buffer
  pub past : header_length ≤ x.number → x.buffer ≡ overlaid (take x.number x.buffer) buffer

module _ (buffer : List ℕ) where
  told_refused : (cause : Refusal) → Told buffer (record { number = refusal_number cause; buffer = buffer })
  told_refused cause =
      let (_, most) = cause_numbered cause in record {
        refused_whole = λ _. refl;
        fits = λ h. absurd (omega arith);
        past = λ h. absurd (omega arith);
      }

  told_written : (d : Description) → job_length d.header ≤ length buffer →
      Told buffer (record { number = job_length d.header; buffer = overlaid (job_bytes d) buffer })
  unfolding overlaid job_length
  told_written d h = record {
    refused_whole = λ l. absurd (omega arith);
    fits = λ _. h;
    past = λ _. rw (← job_length_lem d, take-append_seam (job_bytes d) _) refl;
  }

  abbrev returned : Writing → Returned
  returned w = record { number = written_number w.answer; buffer = w.buffer }

  told : (d : Description) → Told buffer (returned (writing d buffer))
  unfolding written_number
  told d = go (accepted d) refl
    where
      go : (a : Result Accepted Refusal) → accepted d ≡ a → Told buffer (returned (writing d buffer))
      go (Err cause) e = rw (cause_writes d buffer e) (told_refused cause)
      go (Ok layer) e =
          elim (dec_le (job_length d.header) (length buffer)) [
            | yes h ↦ rw (room_writes d buffer e h) (told_written d h)
            | no n ↦ rw (short_writes d buffer e (omega arith)) (told_refused ShortJobBuffer)
          ]

pub words_told : (words buffer : List ℕ) → Told buffer (written_words words buffer)
unfolding written_words writing_number
words_told words buffer = told buffer (words_description words)

-- both round trips, by the number: one that is no refusal's is the length
returned_trips : (words buffer : List ℕ) →
    WordsTrips words buffer (written_words words buffer).number (written_words words buffer).buffer
unfolding written_words writing_number written_number
returned_trips words buffer =
    let d = words_description words in
    let trips = round_trips d buffer in
    record {
      written_then_read = read (writing d buffer).answer refl;
      read_then_written = λ job are done alike room.
          let (answer, after) = trips.read_then_written job are done alike room in (ap written_number answer, after);
    }
  where
    read : (answer : Result ℕ Refusal) → (writing (words_description words) buffer).answer ≡ answer → header_length ≤ written_number (writing (words_description words) buffer).answer →
        ReadAgain (words_description words) (take (written_number (writing (words_description words) buffer).answer) (writing (words_description words) buffer).buffer)
    read (Ok size) e h = rw (e, written_number) ((round_trips (words_description words) buffer).written_then_read size e)
    read (Err cause) e h =
        let (_, most) = cause_numbered cause in
        let number_is = ap written_number e in
        absurd (omega arith)

pub words_trips : (words buffer : List ℕ) {number : ℕ} {after : List ℕ} → number ≡ (written_words words buffer).number →
    after ≡ (written_words words buffer).buffer → WordsTrips words buffer number after
words_trips words buffer n a = rw (n, a) (returned_trips words buffer)
