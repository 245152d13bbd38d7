use mathlib.Core.Path.{sym, ◌∙◌}
use Rattle.words.proofs.CutFields.{field_past, field_cut}
use Rattle.words.proofs.bytes.word_at.Goals as goal

pub returns-then-bytes-offset : goal.returns-then-bytes-offset
returns-then-bytes-offset c = sym (field_past _ _ c.if-bytes-offset.true)

pub returns-then-left-lt8 : goal.returns-then-left-lt8
returns-then-left-lt8 c = c.field.ensures ∙ field_cut _ _ c.if-left-lt8.true
