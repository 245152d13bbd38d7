use mathlib.Core.Path.{refl, sym, ◌∙◌}
use Rattle.description.proofs.FieldLaws.{others_by, fields_answer_lem}
use Rattle.description.specs.Lent.{description_of}
use Rattle.quantities.proofs.Limits.{tested_some, tested_none}
use Rattle.description.proofs.fields.check_fields.Goals as goal

pub returns-in_err-top : goal.returns-in_err-top
returns-in_err-top c _ _ _ _ _ _ = c.from_residual.ensures ∙ sym (fields_answer_lem _ (tested_none _ _ _ c.in_err-top.ensures) refl refl refl)

pub returns-in_err-bottom : goal.returns-in_err-bottom
returns-in_err-bottom c _ _ _ _ _ _ =
    c.from_residual-in_err-bottom.ensures ∙
    sym (fields_answer_lem _ (tested_some _ _ _ c.in_ok-top.ensures).0 (tested_none _ _ _ c.in_err-bottom.ensures) refl refl)

pub returns-in_err-new : goal.returns-in_err-new
returns-in_err-new c _ _ _ _ _ _ =
    c.from_residual-in_err-new.ensures ∙
    sym (fields_answer_lem _ (tested_some _ _ _ c.in_ok-top.ensures).0 (tested_some _ _ _ c.in_ok-bottom.ensures).0
    (tested_none _ _ _ c.in_err-new.ensures) refl)

pub returns-then-sound : goal.returns-then-sound
returns-then-sound c void stress conductivity_void conductivity table_time table_load =
    let d = description_of c.args.header void stress conductivity_void conductivity c.args.solids.now c.args.water.now table_time table_load in
    let top = tested_some _ _ _ c.in_ok-top.ensures in
    let bottom = tested_some _ _ _ c.in_ok-bottom.ensures in
    rw (top.1, bottom.1)
    (sym (fields_answer_lem d top.0 bottom.0 (tested_some _ _ _ c.in_ok-new.ensures).0
    (others_by d c.heights_sound.ensures c.within.ensures c.all_within.ensures c.if-sound.true)))

pub returns-else-sound : goal.returns-else-sound
returns-else-sound c void stress conductivity_void conductivity table_time table_load =
    let d = description_of c.args.header void stress conductivity_void conductivity c.args.solids.now c.args.water.now table_time table_load in
    sym (fields_answer_lem d (tested_some _ _ _ c.in_ok-top.ensures).0 (tested_some _ _ _ c.in_ok-bottom.ensures).0
    (tested_some _ _ _ c.in_ok-new.ensures).0 (others_by d c.heights_sound.ensures c.within.ensures c.all_within.ensures c.if-sound.false))
