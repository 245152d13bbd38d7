use Rattle.rules.specs.Job.{header_sound}
use Rattle.record_parts.proofs.form.header_sound.Goals as goal

pub returns : goal.returns
unfolding header_sound
returns c = c.form_sound.ensures
