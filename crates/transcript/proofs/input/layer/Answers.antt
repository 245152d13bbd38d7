use Rattle.rules.specs.Job.{seconds}
use Rattle.transcript.specs.Input.{layer_in}
use Rattle.transcript.proofs.input.layer.Goals as goal

pub returns : goal.returns
unfolding layer_in seconds
returns c =
    simp (
      c.frame.ensures,
      c.progress.ensures,
      c.firsts-solids.ensures,
      c.firsts-water.ensures,
      c.firsts-table_time.ensures,
      c.firsts-table_load.ensures,
      c.table_at-at.ensures,
      c.field-elements.ensures,
      c.field-points.ensures,
    )
