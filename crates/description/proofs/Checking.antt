-- The causes 5 to 8: the answer test by test, what it tells, and what a description without them keeps.
use lib.IntN.{pos}
use mathlib.Core.Bool.{Bool, true, false, not}
use mathlib.Core.List.{[], ◌∷◌}
use Rattle.std.specs.Prelude.{Option, None, Some}
use Rattle.std.proofs.lemmas.Option.{none-some}
use mathlib.Core.Path.{◌≡◌, refl, sym, ◌∙◌}
use Rattle.description.specs.Causes.{described_answer}
use Rattle.description.specs.Causes.{levels_of}
use Rattle.description.specs.declared.fields.Levels.{Levels}
use Rattle.rules.specs.declared.answers.Refusal.{Refusal}
use Rattle.std.specs.Prelude.{Result, Ok, Err}
use Rattle.rules.specs.Curve.{compressibility_sound, conductivity_sound}
use Rattle.rules.specs.Job.{Description, fields_sound, described_causes, job_site}
use Rattle.rules.specs.Load.{table_sound}
use Rattle.quantities.specs.Quantities.{head}
use Rattle.rules.specs.Refusals.{◌if◌, first_cause}
use Rattle.rules.specs.declared.answers.Refusal.{Refusal}
use Rattle.rules.specs.declared.answers.Refusal.TheVariants.{FieldOutside, CompressibilityCurve, ConductivityCurve, LoadTable}

-- the first of four causes, test by test
unfoldable pub chosen : (fields compressibility conductivity table : Bool) → Option Refusal
chosen false compressibility conductivity table = Some FieldOutside
chosen true false conductivity table = Some CompressibilityCurve
chosen true true false table = Some ConductivityCurve
chosen true true true false = Some LoadTable
chosen true true true true = None

picked : (fields compressibility conductivity table : Bool) →
    first_cause ((FieldOutside if not fields) ∷ (CompressibilityCurve if not compressibility) ∷ (ConductivityCurve if not conductivity) ∷
    (LoadTable if not table) ∷ []) ≡ chosen fields compressibility conductivity table
unfolding first_cause chosen
picked false compressibility conductivity table = refl
picked true false conductivity table = refl
picked true true false table = refl
picked true true true false = refl
picked true true true true = refl

all_true : (fields compressibility conductivity table : Bool) → chosen fields compressibility conductivity table ≡ None →
    (fields ≡ true) × (compressibility ≡ true) × (conductivity ≡ true) × (table ≡ true)
unfolding chosen
all_true true true true true e = (refl, refl, refl, refl)
all_true false compressibility conductivity table e = absurd (none-some _ (sym e))
all_true true false conductivity table e = absurd (none-some _ (sym e))
all_true true true false table e = absurd (none-some _ (sym e))
all_true true true true false e = absurd (none-some _ (sym e))

module _ (d : Description) where
  -- the answer where there is no first cause, and where there is one
  abbrev pub answer_with : Option Refusal → Result Levels Refusal
  answer_with None = Ok (levels_of d)
  answer_with (Some cause) = Err cause

  by_tests : first_cause (described_causes d) ≡
      chosen (fields_sound d) (compressibility_sound (job_site d).compressibility)
      (conductivity_sound (job_site d).conductivity (job_site d).compressibility) (table_sound (job_site d).load_table)
  unfolding described_causes
  by_tests = picked _ _ _ _

  answered : described_answer d ≡ answer_with (first_cause (described_causes d))
  unfolding described_answer
  answered = go (first_cause (described_causes d))
    where
      go : (first : Option Refusal) → elim first as (λ _. Result Levels Refusal) [
        | None ↦ Ok (levels_of d)
        | Some cause ↦ Err cause
      ] ≡ answer_with first
      go None = refl
      go (Some cause) = refl

  -- the answer by the tests
  pub answer_by : {fields compressibility conductivity table : Bool} → fields_sound d ≡ fields →
      compressibility_sound (job_site d).compressibility ≡ compressibility →
      conductivity_sound (job_site d).conductivity (job_site d).compressibility ≡ conductivity →
      table_sound (job_site d).load_table ≡ table → described_answer d ≡ answer_with (chosen fields compressibility conductivity table)
  answer_by e₁ e₂ e₃ e₄ = rw (answered, by_tests, e₁, e₂, e₃, e₄)

  -- what an answer tells
  abbrev pub CheckedTells : Result Levels Refusal → Type 0
  CheckedTells (Ok levels) = (first_cause (described_causes d) ≡ None) × (levels ≡ levels_of d)
  CheckedTells (Err cause) = first_cause (described_causes d) ≡ Some cause

  pub checked_tells : {answer : Result Levels Refusal} → answer ≡ described_answer d → CheckedTells answer
  checked_tells told = rw (told, answered) (go (first_cause (described_causes d)) refl)
    where
      go : (first : Option Refusal) → first_cause (described_causes d) ≡ first → CheckedTells (answer_with first)
      go None e = (e, refl)
      go (Some cause) e = e

  -- where none of them holds, each test passed
  pub none_tests : first_cause (described_causes d) ≡ None → (fields_sound d ≡ true) × (compressibility_sound (job_site d).compressibility ≡ true) ×
      (conductivity_sound (job_site d).conductivity (job_site d).compressibility ≡ true) × (table_sound (job_site d).load_table ≡ true)
  none_tests e = all_true _ _ _ _ (sym by_tests ∙ e)
