use Rattle.text.proofs.Laws.{put_put}
use Rattle.transcript.specs.Lines.{counts_text}
use Rattle.transcript.proofs.lines.put_counts.Goals as goal

pub returns-clause-put : goal.returns-clause-put
unfolding counts_text
returns-clause-put c =
    let two = put_put c.put_number-a.ensures.put c.put_number-b.ensures.put in
    put_put (put_put (put_put two c.put_number-c.ensures.put) c.put_number-d.ensures.put) c.put_number.ensures.put
