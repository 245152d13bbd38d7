use Rattle.text.proofs.Laws.{put_put}
use Rattle.transcript.specs.Lines.{state_text}
use Rattle.transcript.proofs.lines.put_state.Goals as goal

pub returns-clause-put : goal.returns-clause-put
unfolding state_text
returns-clause-put c = put_put c.put_amounts-next.ensures.put c.put_column.ensures.put
