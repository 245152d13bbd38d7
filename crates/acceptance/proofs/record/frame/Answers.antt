use Rattle.numbers.proofs.Signed.{signed}
use Rattle.rules.specs.Job.{frame_of}
use Rattle.rules.specs.Layer.{top_pressure}
use Rattle.acceptance.proofs.record.frame.Goals as goal

pub bottom_pressure-held-requires : goal.bottom_pressure-held-requires
bottom_pressure-held-requires c = rw (c.requires.levels_value.0, c.requires.levels_value.1) ((omega signed, omega signed), (omega signed, omega signed))

pub returns : goal.returns
unfolding frame_of top_pressure
returns c =
    rw (c.numbered_face-top.ensures, c.numbered_face-bottom.ensures, c.bottom_pressure-held.ensures, c.requires.levels_value.0, c.requires.levels_value.1)
