use Rattle.transcript.specs.Input.{record_in}
use Rattle.transcript.proofs.input.record.Goals as goal

pub returns : goal.returns
unfolding record_in
returns c = rw (c.soil.ensures, c.layer.ensures)
