-- A reading against the pore pressure of an element of a record: what is answered, and its numbers.
use Rattle.std.specs.Prelude.{ℕ, ◌-◌, ℤ, ◌-ℤ◌, not, [], ◌∷◌}
use Rattle.std.specs.Prelude.{Option, None, Some}
use Rattle.numbers.specs.Integers.{signed_field}
use Rattle.pore.specs.Pore.{element_pore}
use Rattle.quantities.specs.Quantities.{from◌to◌, within, pressure}
use Rattle.readings.specs.Conversion.{conversion}
use Rattle.readings.specs.declared.Converted.{Converted}
use Rattle.readings.specs.declared.Converted.TheVariants as converted
use Rattle.readings.specs.declared.Reading.{Reading}
use Rattle.record_reading.specs.declared.Compared.{Compared}
use Rattle.record_reading.specs.declared.Compared.TheVariants.{Difference, Missing}
use Rattle.std.specs.Prelude.{Result, Ok, Err}
use Rattle.record_reading.specs.declared.Numbers.{Numbers}
use Rattle.rules.specs.Record.{is_layer}
use Rattle.rules.specs.Refusals.{◌if◌, first_cause, refusal_number}
use Rattle.rules.specs.declared.answers.Refusal.{Refusal}
use Rattle.rules.specs.declared.answers.Refusal.TheVariants.{NoLayer, ReadingOutside, ElementOutside}
use Rattle.rules.specs.declared.record.Record.{Record}

-- a reading less a pore pressure
abbrev pub less_pore : (pore : ℤ) → Converted → Compared
less_pore pore (converted.Value exact held) = Difference exact (pressure pore) (pressure (held.0 -ℤ pore))
less_pore pore converted.Missing = Missing (pressure pore)

-- a converted one; cause 18
abbrev pub against : (pore : ℤ) → Option Converted → Result Compared Refusal
against pore (Some value) = Ok (less_pore pore value)
against pore None = Err ReadingOutside

-- the causes that are tested before it: 11, then 19
unfoldable pub element_refusal : Record → (element : ℕ) → Option Refusal
unfolding first_cause is_layer within
element_refusal r element =
    first_cause ((NoLayer if not (is_layer r)) ∷ (ElementOutside if not (within (from 1 to r.layer.frame.elements) element)) ∷ [])

-- what a reading of an element of any record gives; element 1 is the lowest
unfoldable pub compared : Record → (element : ℕ) → Reading → Result Compared Refusal
unfolding element_refusal element_pore
compared r element reading =
    elim (element_refusal r element) [
      | Some cause ↦ Err cause
      | None ↦ against (element_pore r (element - 1)) (conversion reading)
    ]

-- an answer in numbers: the refusal's, or 0; 1 for a missing reading; exact value, pore pressure and difference as fields hold signed
-- numbers, each 0 where there is none
unfoldable pub told_numbers : Compared → Numbers
told_numbers (Difference exact pore difference) = record {
  refusal = 0;
  missing = 0;
  exact = signed_field exact.0;
  pore = signed_field pore.0;
  difference = signed_field difference.0;
}
told_numbers (Missing pore) = record { refusal = 0; missing = 1; exact = 0; pore = signed_field pore.0; difference = 0 }

unfoldable pub compared_numbers : Result Compared Refusal → Numbers
unfolding refusal_number told_numbers
compared_numbers (Ok told) = told_numbers told
compared_numbers (Err cause) = record { refusal = refusal_number cause; missing = 0; exact = 0; pore = 0; difference = 0 }
