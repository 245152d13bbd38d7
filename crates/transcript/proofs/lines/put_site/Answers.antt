use Rattle.text.proofs.Laws.{put_put}
use Rattle.transcript.specs.Lines.{site_text}
use Rattle.transcript.proofs.lines.put_site.Goals as goal

pub returns-clause-put : goal.returns-clause-put
unfolding site_text
returns-clause-put c =
    put_put (put_put (put_put c.put_counts-a.ensures.put c.put_face-b.ensures.put) c.put_face-c.ensures.put) c.put_levels.ensures.put
