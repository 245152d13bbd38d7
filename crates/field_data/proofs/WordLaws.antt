-- The number of an element, and the answers that a loop stores one after the other.
use Prim.Native.Nat.{ℕ, ◌+◌, ◌*◌, ◌≤◌}
use native.Mathlib.Nat.{zero-add}
use lib.ListN.{length}
use lib.Seq.{sets}
use mathlib.Core.List.{List}
use mathlib.Core.Bool.{true}
use mathlib.Core.Path.{◌≡◌, refl, ap, ◌∙◌}
use Rattle.encoding.proofs.Stores.{sets_append, sets_front}
use Rattle.field_data.specs.Words.{reading_count, numbers_words, answer_by, answers_by}
use Rattle.numbers.proofs.Appended.{appended_more, length-appended}
use Rattle.numbers.proofs.Filled.{tabulate_cong, tabulate_more}
use Rattle.numbers.specs.Arrays.{tabulate, overlaid}
use Rattle.numbers.specs.Lists.{appended}
use Rattle.numbers.proofs.Searches.{passed}
use Rattle.quantities.proofs.Limits.{within_parts}
use Rattle.quantities.specs.Quantities.{from◌to◌, within}
use Rattle.readings.specs.declared.Reading.{Reading}
use Rattle.record_reading.specs.Comparison.{compared_numbers}
use Rattle.rules.specs.declared.answers.Refusal.{Refusal}
use Rattle.record_reading.specs.declared.Compared.{Compared}
use Rattle.std.specs.Prelude.{Result}

-- the number of an element, where its test says so
pub numbered : (element elements : ℕ) → within (from 1 to elements) element ≡ true → (element ≤ elements) × (1 ≤ element)
numbered element elements e = let (least, most) = within_parts (from 1 to elements) element (passed e) in (most, least)

module _ (compare : (element : ℕ) → Reading → Result Compared Refusal) (readings : List ℕ) where
  -- the answers to the first readings
  abbrev pub first_answers : (count : ℕ) → List ℕ
  first_answers count = appended (tabulate count (answer_by compare readings))

  answers_length : (count : ℕ) → length (first_answers count) ≡ 5 * count
  answers_length count = length-appended 5 count (answer_by compare readings) (λ i h. refl)

  module _ (before : List ℕ) where
    pub answers_none : before ≡ sets before 0 (first_answers 0)
    unfolding appended tabulate
    answers_none = refl

    -- one answer more
    pub answers_more : (i : ℕ) (out next : List ℕ) → out ≡ sets before 0 (first_answers i) → next ≡ sets out (5 * i) (answer_by compare readings i) →
        next ≡ sets before 0 (first_answers (i + 1))
    answers_more i out next e k =
        rw (
          k,
          e,
          tabulate_more i (answer_by compare readings),
          appended_more (tabulate i (answer_by compare readings)) (answer_by compare readings i),
          sets_append before 0 (first_answers i) (answer_by compare readings i),
          answers_length i,
          zero-add (5 * i),
        )
        refl

    -- all answers
    pub answers_all : (i : ℕ) (out : List ℕ) → out ≡ sets before 0 (first_answers i) → i ≡ reading_count readings →
        5 * reading_count readings ≤ length before → out ≡ overlaid (answers_by compare readings) before
    answers_all i out e all room =
        e ∙ ap (λ (n : ℕ). sets before 0 (first_answers n)) all ∙
        sets_front before (first_answers (reading_count readings)) (rw (answers_length (reading_count readings)) room)

-- answers that agree on each reading agree on all
pub answers_same : (one other : (element : ℕ) → Reading → Result Compared Refusal) → ((element : ℕ) (x : Reading) → one element x ≡ other element x) →
    (readings : List ℕ) → answers_by one readings ≡ answers_by other readings
answers_same one other e readings =
    ap appended (tabulate_cong (reading_count readings) (answer_by one readings) (answer_by other readings) (λ i h. ap (λ (c : Result Compared Refusal). numbers_words (compared_numbers c)) (e _ _)))
