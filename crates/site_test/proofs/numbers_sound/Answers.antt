use Rattle.site_test.proofs.numbers_sound.Goals as goal

pub returns : goal.returns
returns c = rw (← c.face_number.ensures, ← c.face_number-2.ensures) c.form_sound.ensures
