-- There are twenty causes, numbered from 1.
use Prim.Native.Nat.{◌≤◌, ◌<◌}
use lib.Dec.{lit≤}
use Rattle.rules.specs.Refusals.{refusal_number}
use Rattle.rules.specs.declared.answers.Refusal.{Refusal}
use Rattle.rules.specs.declared.answers.Refusal.TheVariants.{ShortOrUnmarked, OtherVersion, HeaderOutside, WrongLength, FieldOutside, CompressibilityCurve, ConductivityCurve, LoadTable, StartOffCurve, ShortBuffer, NoLayer, LoadOutside, StepOutside, StepTooLong, StepOffCurve, RunOutside, ShortJobBuffer, ReadingOutside, ElementOutside, StartNotSteady}

pub cause_numbered : (cause : Refusal) → (0 < refusal_number cause) × (refusal_number cause ≤ 20)
unfolding refusal_number
cause_numbered ShortOrUnmarked = (lit≤ tt, lit≤ tt)
cause_numbered OtherVersion = (lit≤ tt, lit≤ tt)
cause_numbered HeaderOutside = (lit≤ tt, lit≤ tt)
cause_numbered WrongLength = (lit≤ tt, lit≤ tt)
cause_numbered FieldOutside = (lit≤ tt, lit≤ tt)
cause_numbered CompressibilityCurve = (lit≤ tt, lit≤ tt)
cause_numbered ConductivityCurve = (lit≤ tt, lit≤ tt)
cause_numbered LoadTable = (lit≤ tt, lit≤ tt)
cause_numbered StartOffCurve = (lit≤ tt, lit≤ tt)
cause_numbered ShortBuffer = (lit≤ tt, lit≤ tt)
cause_numbered NoLayer = (lit≤ tt, lit≤ tt)
cause_numbered LoadOutside = (lit≤ tt, lit≤ tt)
cause_numbered StepOutside = (lit≤ tt, lit≤ tt)
cause_numbered StepTooLong = (lit≤ tt, lit≤ tt)
cause_numbered StepOffCurve = (lit≤ tt, lit≤ tt)
cause_numbered RunOutside = (lit≤ tt, lit≤ tt)
cause_numbered ShortJobBuffer = (lit≤ tt, lit≤ tt)
cause_numbered ReadingOutside = (lit≤ tt, lit≤ tt)
cause_numbered ElementOutside = (lit≤ tt, lit≤ tt)
cause_numbered StartNotSteady = (lit≤ tt, lit≤ tt)
