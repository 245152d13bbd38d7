-- Readings by their words, three each: element, kind, float; and their answers on a record, or by its result, five words each.
use Rattle.std.specs.Prelude.{ℕ, zero, suc, ◌+◌, ◌-◌, ◌*◌, ◌/◌, ◌%◌, ◌^◌, ◌≤◌, ◌<◌, ℤ, length, get_or, cond, List, [], ◌∷◌}
use Rattle.floats.specs.Binary32.{float_of}
use Rattle.numbers.specs.Arrays.{tabulate}
use Rattle.numbers.specs.Bytes.{field, signed_number}
use Rattle.numbers.specs.Interval.{Within}
use Rattle.numbers.specs.Lists.{appended}
use Rattle.quantities.specs.Quantities.{from◌to◌, within}
use Rattle.readings.specs.Conversion.{conversion}
use Rattle.readings.specs.declared.Reading.{Reading}
use Rattle.readings.specs.declared.Reading.TheVariants.{Pressure, Column, Missing}
use Rattle.record_reading.specs.Comparison.{against, compared, compared_numbers}
use Rattle.rules.specs.declared.answers.Refusal.{Refusal}
use Rattle.record_reading.specs.declared.Compared.{Compared}
use Rattle.std.specs.Prelude.{Result, Err}
use Rattle.record_reading.specs.declared.Numbers.{Numbers}
use Rattle.result_elements.specs.Elements.{most_pore}
use Rattle.rules.specs.declared.answers.Refusal.TheVariants.{ElementOutside}
use Rattle.rules.specs.declared.record.Record.{Record}

-- a reading by its kind: 1 is a pressure, 2 a column, any other missing; its float is in the lower 32 bits of a word
unfoldable pub reading_of : (kind word : ℕ) → Reading
reading_of zero word = Missing
reading_of (suc zero) word = Pressure (float_of (word % 2 ^ 32))
reading_of (suc (suc zero)) word = Column (float_of (word % 2 ^ 32))
reading_of (suc (suc (suc kind))) word = Missing

-- how many readings there are; one that lacks words is none
abbrev pub reading_count : (readings : List ℕ) → ℕ
reading_count readings = length readings / 3

-- the words of an answer
abbrev pub numbers_words : Numbers → List ℕ
numbers_words n = n.refusal ∷ n.missing ∷ n.exact ∷ n.pore ∷ n.difference ∷ []

-- those of the answer to reading i, where answers are given by element and reading
abbrev pub answer_by : ((element : ℕ) → Reading → Result Compared Refusal) → (readings : List ℕ) (i : ℕ) → List ℕ
answer_by compare readings i =
    numbers_words (compared_numbers (compare (get_or readings (3 * i) 0) (reading_of (get_or readings (3 * i + 1) 0) (get_or readings (3 * i + 2) 0))))

-- those of all answers
abbrev pub answers_by : ((element : ℕ) → Reading → Result Compared Refusal) → (readings : List ℕ) → List ℕ
answers_by compare readings = appended (tabulate (reading_count readings) (answer_by compare readings))

-- on a record
unfoldable pub answers_on : Record → (readings : List ℕ) → List ℕ
unfolding compared compared_numbers reading_of appended tabulate
answers_on r readings = answers_by (compared r) readings

-- ---- by the bytes of a result

-- its number of elements
abbrev pub elements_in : (result : List ℕ) → ℕ
elements_in result = field 1 6 result

-- the pore pressure that it has of the element at an index
abbrev pub pore_in : (result : List ℕ) (index : ℕ) → ℤ
pore_in result index = signed_number (field 8 (56 + (40 * index + 32)) result)

-- it has all its elements, and their pore pressures are in range
pub record Told (result : List ℕ) : Type 0 where
  pub whole : 56 + 40 * elements_in result ≤ length result
  pub in_range : (index : ℕ) → index < elements_in result → Within (pore_in result index) most_pore

abbrev pub compared_in : (result : List ℕ) (element : ℕ) → Reading → Result Compared Refusal
compared_in result element reading =
    cond (within (from 1 to (elements_in result)) element) (against (pore_in result (element - 1)) (conversion reading)) (Err ElementOutside)

abbrev pub answer_in : (result readings : List ℕ) (i : ℕ) → List ℕ
answer_in result readings i = answer_by (compared_in result) readings i

abbrev pub answers_in : (result readings : List ℕ) → List ℕ
answers_in result readings = answers_by (compared_in result) readings
