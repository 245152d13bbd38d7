-- Cause 5 of a description: its answer test by test, and what the answer tells.
use Prim.Native.Nat.{ℕ}
use lib.Dec.{eqb}
use lib.IntN.{pos}
use mathlib.Core.Bool.{Bool, true, false, not, ◌&&◌, ◌||◌}
use mathlib.Core.List.{List, [], ◌∷◌}
use mathlib.Core.Path.{◌≡◌, refl}
use Rattle.description.specs.Causes.{fields_answer}
use Rattle.description.specs.Causes.{levels_of}
use Rattle.description.specs.declared.fields.Levels.{Levels}
use Rattle.std.specs.Prelude.{if◌then◌else◌, Option, None, Some}
use Rattle.numbers.specs.Arrays.{first_places}
use Rattle.numbers.specs.Lists.{all}
use Rattle.quantities.proofs.Limits.{only_zero}
use Rattle.rules.specs.Job.{Description, fields_sound, given_water, job_site, numbered_face}
use Rattle.quantities.specs.Quantities.{within, within_ℤ, level_limits, clock_limits, budget_limits, from◌to◌, head}
use Rattle.rules.specs.Record.{heights_sound, sizes_sound, closed_at_zero}
use Rattle.quantities.specs.declared.Face.TheVariants.{Closed, Drained}
use Rattle.quantities.specs.declared.Pressure.{Pressure}

all_zero : (l : List ℕ) → all (λ w. eqb w 0) l ≡ all (within (from 0 to 0)) l
unfolding all
all_zero [] = refl
all_zero (n ∷ l) = rw (only_zero n, all_zero l)

-- a closed bottom has level 0, by the numbers of both
closed_by : (number level : ℕ) (held : Pressure) → closed_at_zero (numbered_face number held) (pos level) ≡ (not (eqb number 0) || eqb level 0)
unfolding closed_at_zero numbered_face
closed_by number level held = go (eqb number 0)
  where
    go : (closed : Bool) → closed_at_zero (elim closed [ true ↦ Closed | false ↦ Drained held ]) (pos level) ≡ (not closed || eqb level 0)
    go true = refl
    go false = refl

-- the second and the third of three tests exchanged
exchanged : (a b c : Bool) → (a && b && c) ≡ (a && c && b)
exchanged true true true = refl
exchanged true true false = refl
exchanged true false true = refl
exchanged true false false = refl
exchanged false b c = refl

-- four tests after another
grouped : (a b c d e : Bool) → (a && b && c && d && e) ≡ (a && (b && c && d && e))
grouped true b c d e = refl
grouped false b c d e = refl

-- seven tests, the fifth put third
reordered : (top bottom closed heights ended budgeted given : Bool) →
    (top && bottom && closed && heights && ended && budgeted && given) ≡ (top && bottom && ended && (closed && heights && budgeted && given))
reordered top bottom closed heights ended budgeted given =
    rw (exchanged (top && bottom && closed) heights ended, exchanged (top && bottom) closed ended)
    (grouped (top && bottom && ended) closed heights budgeted given)

module _ (d : Description) where
  -- the tests but those of levels and end
  abbrev pub others : Bool
  others =
      (not (eqb d.header.bottom 0) || eqb d.header.bottom_level 0) &&
      heights_sound (first_places d.header.elements d.solids) (first_places d.header.elements d.water) && within budget_limits d.header.budget &&
      (not (eqb d.header.start 1) || all (within (from 0 to 0)) (first_places d.header.elements d.water))

  -- as they are tested
  pub others_by : {heights budgeted dry rest : Bool} →
      heights ≡ heights_sound (first_places d.header.elements d.solids) (first_places d.header.elements d.water) →
      budgeted ≡ within budget_limits d.header.budget →
      dry ≡ all (within (from 0 to 0)) (first_places d.header.elements d.water) →
      ((not (eqb d.header.bottom 0) || eqb d.header.bottom_level 0) && heights && budgeted && (not (eqb d.header.start 1) || dry)) ≡ rest →
      others ≡ rest
  others_by e₁ e₂ e₃ e = rw (← e₁, ← e₂, ← e₃) e

  fields_by : fields_sound d ≡ (within level_limits d.header.top_level && within level_limits d.header.bottom_level && within clock_limits d.header.end && others)
  unfolding fields_sound sizes_sound job_site given_water within_ℤ
  fields_by =
      rw (closed_by, all_zero)
      (reordered (within level_limits d.header.top_level) (within level_limits d.header.bottom_level)
      (not (eqb d.header.bottom 0) || eqb d.header.bottom_level 0) (heights_sound (first_places d.header.elements d.solids) (first_places d.header.elements d.water)) (within clock_limits d.header.end)
      (within budget_limits d.header.budget) (not (eqb d.header.start 1) || all (within (from 0 to 0)) (first_places d.header.elements d.water)))

  -- the answer by the tests
  pub fields_answer_lem : {top bottom ended rest : Bool} → within level_limits d.header.top_level ≡ top →
      within level_limits d.header.bottom_level ≡ bottom → within clock_limits d.header.end ≡ ended → others ≡ rest →
      fields_answer d ≡
      (if top && bottom && ended && rest then Some (levels_of d) else None)
  unfolding fields_answer
  fields_answer_lem e₁ e₂ e₃ e₄ = rw (fields_by, e₁, e₂, e₃, e₄, fields_answer)

  -- what an answer tells
  abbrev pub FieldsTell : Option Levels → Type 0
  FieldsTell (Some levels) = (fields_sound d ≡ true) × (levels ≡ levels_of d)
  FieldsTell None = fields_sound d ≡ false

  pub fields_tell : {answer : Option Levels} → answer ≡ fields_answer d → FieldsTell answer
  unfolding fields_answer
  fields_tell told = rw told (go (fields_sound d) refl)
    where
      go : (sound : Bool) → fields_sound d ≡ sound → FieldsTell (if sound then Some (levels_of d) else None)
      go true e = (e, refl)
      go false e = e
