-- What writing the words of an input returns, and what is written for it.
use Prim.Native.Nat.{ℕ, ◌≤◌, ◌<◌}
use native.Mathlib.Omega.{arith}
use borrow.Author.Tests.{lt-ltb, le-ltb}
use lib.Dec.{ltb}
use lib.ListN.{length, take}
use lib.Seq.{length-take-le}
use mathlib.Core.Bool.{Bool, true, false}
use mathlib.Core.List.{List}
use mathlib.Core.Path.{◌≡◌, sym, ap, ◌∙◌}
use Rattle.compose.specs.Composed.{job_most, composed}
use Rattle.numbers.specs.Arrays.{zeros, overlaid}
use Rattle.rules.specs.Job.{header_length}
use Rattle.rules.specs.Program.{refused_line}
use Rattle.rules.specs.Result.{Returned}
use Rattle.words.proofs.OneNumber.{Told, words_told}
use Rattle.words.specs.Words.{words_length, words_in, written_words}

-- the refusal, or the job's bytes
abbrev written : Returned → (refused : Bool) → List ℕ
written x refused = elim refused [ true ↦ refused_line x.number | false ↦ take x.number x.buffer ]

-- what is returned for the words of an input in a blank buffer
module _ (input buffer words : List ℕ) (number : ℕ) (out : List ℕ) (blank : buffer ≡ zeros job_most) (read : words ≡ words_in words_length input)
    (number_is : number ≡ (written_words words buffer).number) (out_is : out ≡ (written_words words buffer).buffer) where
  abbrev x : Returned
  x = record { number = number; buffer = out }

  returned_is : written_words (words_in words_length input) (zeros job_most) ≡ x
  returned_is = (λ i. written_words (sym read i) (sym blank i)) ∙ (λ i. record { number = sym number_is i; buffer = sym out_is i })

  composed_is : (refused : Bool) → ltb number header_length ≡ refused → composed input ≡ written x refused
  unfolding composed
  composed_is refused e =
      ap (λ (x : Returned). written x (ltb x.number header_length)) returned_is ∙ ap (λ (b : Bool). written x b) e

  told : Told buffer x
  told = rw (number_is, out_is) (words_told words buffer)

  -- a job: the first bytes of the buffer
  pub job_composed : length out ≡ length buffer → header_length ≤ number →
      (out ≡ overlaid (composed input) buffer) × (number ≡ length (composed input))
  job_composed kept h =
      let few = told.fits h in
      rw (composed_is false (le-ltb number header_length h)) (told.past h, sym (length-take-le number out (omega arith)))

  -- a refusal: its line
  pub refusal_composed : (last : List ℕ) (size : ℕ) → number < header_length →
      (last ≡ overlaid (refused_line number) out) × (size ≡ length (refused_line number)) →
      (last ≡ overlaid (composed input) buffer) × (size ≡ length (composed input))
  refusal_composed last size h line =
      let whole : out ≡ buffer = told.refused_whole h in
      rw (composed_is true (lt-ltb number header_length h), ← whole) line
