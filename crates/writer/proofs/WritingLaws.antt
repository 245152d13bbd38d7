-- What writing a description answers and leaves, by what accepting it answers and by the room.
use Prim.Native.Nat.{ℕ, ◌≤◌, ◌<◌}
use borrow.Author.Tests.{lt-ltb, le-ltb}
use lib.ListN.{length}
use mathlib.Core.Bool.{Bool, true, false}
use mathlib.Core.List.{List}
use mathlib.Core.Path.{◌≡◌, refl, sym, ◌∙◌}
use Rattle.acceptance.proofs.AcceptingLaws.{accepted_none, header_outside}
use Rattle.job.proofs.FirstCause.{none_some}
use Rattle.numbers.specs.Arrays.{overlaid}
use Rattle.rules.specs.Job.{Description, header_sound, job_length}
use Rattle.rules.specs.Opening.{accepted}
use Rattle.rules.specs.declared.answers.Accepted.{Accepted}
use Rattle.std.specs.Prelude.{Ok, Err}
use Rattle.rules.specs.declared.answers.Refusal.{Refusal}
use Rattle.rules.specs.declared.answers.Refusal.TheVariants.{HeaderOutside, ShortJobBuffer}
use Rattle.writer.specs.Writing.{job_bytes, refused_writing, writing}

module _ (d : Description) (buffer : List ℕ) where
  -- one of the causes 3, 5 to 9 and 20
  pub cause_writes : {cause : Refusal} → accepted d ≡ Err cause → writing d buffer ≡ refused_writing cause buffer
  unfolding writing
  cause_writes e = rw (e, writing)

  module _ {layer : Accepted} (e : accepted d ≡ Ok layer) where
    -- cause 17
    pub short_writes : length buffer < job_length d.header → writing d buffer ≡ refused_writing ShortJobBuffer buffer
    unfolding writing
    short_writes h = rw (e, writing, lt-ltb (length buffer) (job_length d.header) h)

    -- none
    pub room_writes : job_length d.header ≤ length buffer →
        writing d buffer ≡ record { answer = Ok (job_length d.header); buffer = overlaid (job_bytes d) buffer }
    unfolding writing
    room_writes h = rw (e, writing, le-ltb (length buffer) (job_length d.header) h)

-- the header of an accepted description keeps its limits
pub accepted_header : (d : Description) {layer : Accepted} → accepted d ≡ Ok layer → header_sound d.header ≡ true
accepted_header d e = go (header_sound d.header) refl
  where
    go : (kept : Bool) → header_sound d.header ≡ kept → header_sound d.header ≡ true
    go true k = k
    go false k = absurd (none_some HeaderOutside (sym (accepted_none d e) ∙ header_outside d k))
