use mathlib.Core.Path.{sym, ◌∙◌}
use Rattle.site_test.proofs.curves_sound.Goals as goal

pub returns-then-compressibility_sound : goal.returns-then-compressibility_sound
returns-then-compressibility_sound c = rw (sym c.compressibility_sound.ensures ∙ c.if-compressibility_sound.true) c.conductivity_sound.ensures

pub returns-else-compressibility_sound : goal.returns-else-compressibility_sound
returns-else-compressibility_sound c = rw (c.if-compressibility_sound.false, sym c.compressibility_sound.ensures ∙ c.if-compressibility_sound.false)
