-- The causes 5 to 8 of a description, as the functions that test them answer.
use Rattle.std.specs.Prelude.{pos, if◌then◌else◌, Option, None, Some, Result, Ok, Err}
use Rattle.description.specs.declared.fields.Levels.{Levels}
use Rattle.rules.specs.Job.{Description, fields_sound, described_causes}
use Rattle.quantities.specs.Quantities.{head}
use Rattle.rules.specs.Refusals.{first_cause}
use Rattle.rules.specs.declared.answers.Refusal.{Refusal}

-- the levels of a description
abbrev pub levels_of : Description → Levels
levels_of d = record { top = head (pos d.header.top_level); bottom = head (pos d.header.bottom_level) }

-- cause 5: the levels where the fields are sound
unfoldable pub fields_answer : Description → Option Levels
unfolding fields_sound
fields_answer d = if fields_sound d then Some (levels_of d) else None

-- the first of the causes that holds, or the levels
unfoldable pub described_answer : Description → Result Levels Refusal
unfolding first_cause described_causes
described_answer d = elim (first_cause (described_causes d)) [ None ↦ Ok (levels_of d) | Some cause ↦ Err cause ]
