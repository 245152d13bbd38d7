use Rattle.transcript.specs.Lines.{column_text}
use Rattle.transcript.proofs.lines.put_column.Goals as goal

pub returns-clause-put : goal.returns-clause-put
unfolding column_text
returns-clause-put c = rw c.used.ensures.0 at c.put_row.ensures.put
