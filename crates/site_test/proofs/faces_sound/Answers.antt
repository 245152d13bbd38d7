use Rattle.rules.specs.Layer.{top_pressure}
use Rattle.site_test.proofs.faces_sound.Goals as goal

pub returns : goal.returns
unfolding top_pressure
returns c = rw (c.face_holds.ensures, c.face_holds-2.ensures, c.bottom_pressure-held.ensures)
