use Rattle.job.proofs.framing.header_outside.Goals as goal

pub returns-then-not-header_sound : goal.returns-then-not-header_sound
returns-then-not-header_sound c = rw (← c.header_sound.ensures, c.if-not-header_sound.true)

pub returns-else-not-header_sound : goal.returns-else-not-header_sound
returns-else-not-header_sound c = rw (← c.header_sound.ensures, c.if-not-header_sound.false, c.field.ensures)
