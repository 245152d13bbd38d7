-- What a reading of an element gives, by the tests that are made before it is looked at.
use Prim.Native.Nat.{ℕ, ◌-◌}
use native.Mathlib.Omega.{arith}
use lib.Ieee.{binary32, to_bits}
use lib.IntN.{ℤ}
use mathlib.Core.Bool.{Bool, true, false, cond}
use Rattle.std.specs.Prelude.{Option, None, Some}
use mathlib.Core.Path.{◌≡◌, refl, sym, ap, ◌∙◌}
use Rattle.floats.specs.Binary32.{at_most, in_units}
use Rattle.pore.specs.Pore.{element_pore}
use Rattle.quantities.specs.Quantities.{from◌to◌, within, head, pressure, pressure_of}
use Rattle.quantities.specs.declared.Pressure.{Pressure}
use Rattle.readings.specs.Conversion.{kilopascal, metre, most_pressure, most_column, exact, conversion}
use Rattle.readings.specs.declared.Converted.TheVariants as converted
use Rattle.readings.specs.declared.Exact.{Exact}
use Rattle.readings.specs.declared.Reading.{Reading}
use Rattle.readings.specs.declared.Reading.TheVariants as reading
use Rattle.record_reading.specs.Comparison.{against, element_refusal, compared}
use Rattle.record_reading.specs.declared.Compared.{Compared}
use Rattle.record_reading.specs.declared.Compared.TheVariants.{Difference, Missing}
use Rattle.std.specs.Prelude.{Result, Ok, Err}
use Rattle.rules.specs.Record.{is_layer}
use Rattle.rules.specs.Refusals.{first_cause}
use Rattle.rules.specs.declared.answers.Refusal.{Refusal}
use Rattle.rules.specs.declared.answers.Refusal.TheVariants.{NoLayer, ElementOutside}
use Rattle.rules.specs.declared.record.Record.{Record}

module _ (r : Record) (element : ℕ) (reading : Reading) where
  by_refusal : (cause : Option Refusal) → element_refusal r element ≡ cause →
      compared r element reading ≡ elim cause [ Some cause ↦ Err cause | None ↦ against (element_pore r (element - 1)) (conversion reading) ]
  unfolding compared
  by_refusal cause e =
      ap (λ (c : Option Refusal). elim c as (λ _. Result Compared Refusal) [
        | Some x ↦ Err x
        | None ↦ against (element_pore r (element - 1)) (conversion reading)
      ]) e

  -- cause 11 comes first
  pub no_layer : is_layer r ≡ false → compared r element reading ≡ Err NoLayer
  unfolding element_refusal first_cause
  no_layer e = by_refusal (Some NoLayer) (rw e)

  module _ (is : is_layer r ≡ true) where
    -- then 19
    pub no_element : within (from 1 to r.layer.frame.elements) element ≡ false → compared r element reading ≡ Err ElementOutside
    unfolding element_refusal first_cause
    no_element e = by_refusal (Some ElementOutside) (rw (is, e))

    pub taken : within (from 1 to r.layer.frame.elements) element ≡ true →
        compared r element reading ≡ against (element_pore r (element - 1)) (conversion reading)
    unfolding element_refusal first_cause
    taken e = by_refusal None (rw (is, e))

-- ---- "missing" exactly for a missing reading

-- 1 for an answer that says so
abbrev is_missing : Result Compared Refusal → ℕ
is_missing (Ok (Difference exact pore difference)) = 0
is_missing (Ok (Missing pore)) = 1
is_missing (Err cause) = 0

-- a float's reading is none
not_missing : (pore : ℤ) (test : Bool) (value : Exact) (held : Pressure) →
    is_missing (against pore (cond test (Some (converted.Value value held)) None)) ≡ 0
not_missing pore true value held = refl
not_missing pore false value held = refl

missing_converted : (pore : ℤ) (x : Reading) → is_missing (against pore (conversion x)) ≡ 1 → x ≡ reading.Missing
missing_converted pore (reading.Pressure x) e =
    let bits = to_bits binary32 x in
    let value = in_units kilopascal bits in
    let none = not_missing pore (at_most most_pressure bits) (exact value) (pressure value) in
    absurd (omega (arith, none, e))
missing_converted pore (reading.Column x) e =
    let bits = to_bits binary32 x in
    let value = in_units metre bits in
    let none = not_missing pore (at_most most_column bits) (exact value) (pressure_of (head value)) in
    absurd (omega (arith, none, e))
missing_converted pore reading.Missing e = refl

module _ (r : Record) (element : ℕ) where
  -- a missing reading of an element of a layer is answered so
  pub missing_told : is_layer r ≡ true → within (from 1 to r.layer.frame.elements) element ≡ true →
      compared r element reading.Missing ≡ Ok (Missing (pressure (element_pore r (element - 1))))
  missing_told is e = taken r element reading.Missing is e

  -- and no other
  pub missing_only : (x : Reading) (pore : Pressure) → compared r element x ≡ Ok (Missing pore) → x ≡ reading.Missing
  missing_only x pore e = go (element_refusal r element) refl
    where
      go : (cause : Option Refusal) → element_refusal r element ≡ cause → x ≡ reading.Missing
      go (Some cause) k = let z : ◌≡◌ {A = ℕ} 0 1 = ap is_missing (sym (by_refusal r element x (Some cause) k) ∙ e) in absurd (omega arith)
      go None k = missing_converted (element_pore r (element - 1)) x (ap is_missing (sym (by_refusal r element x None k) ∙ e))
