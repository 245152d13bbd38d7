-- The causes for which a key is withheld, and their numbers.
use Rattle.std.specs.Prelude.{ℕ, Bool, true, false, List, [], ◌∷◌}
use Rattle.std.specs.Prelude.{Option, None, Some}
use Rattle.rules.specs.declared.answers.Refusal.{Refusal}
use Rattle.rules.specs.declared.answers.Refusal.TheVariants.{ShortOrUnmarked, OtherVersion, HeaderOutside, WrongLength, FieldOutside, CompressibilityCurve, ConductivityCurve, LoadTable, StartOffCurve, ShortBuffer, NoLayer, LoadOutside, StepOutside, StepTooLong, StepOffCurve, RunOutside, ShortJobBuffer, ReadingOutside, ElementOutside, StartNotSteady}

-- the paper's number of each cause
unfoldable pub refusal_number : Refusal → ℕ
refusal_number ShortOrUnmarked = 1
refusal_number OtherVersion = 2
refusal_number HeaderOutside = 3
refusal_number WrongLength = 4
refusal_number FieldOutside = 5
refusal_number CompressibilityCurve = 6
refusal_number ConductivityCurve = 7
refusal_number LoadTable = 8
refusal_number StartOffCurve = 9
refusal_number ShortBuffer = 10
refusal_number NoLayer = 11
refusal_number LoadOutside = 12
refusal_number StepOutside = 13
refusal_number StepTooLong = 14
refusal_number StepOffCurve = 15
refusal_number RunOutside = 16
refusal_number ShortJobBuffer = 17
refusal_number ReadingOutside = 18
refusal_number ElementOutside = 19
refusal_number StartNotSteady = 20

-- a cause, and whether it holds
pub record Trial : Type 0 where
  pub cause : Refusal
  pub holds : Bool

infix 30 ◌if◌
abbrev pub ◌if◌ : Refusal → Bool → Trial
cause if holds = record { cause = cause; holds = holds }

-- the first cause that holds, in the order listed
unfoldable pub first_cause : List Trial → Option Refusal
first_cause [] = None
first_cause (trial ∷ rest) = elim trial.holds [ true ↦ Some trial.cause | false ↦ first_cause rest ]
