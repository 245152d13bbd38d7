use borrow.Author.Tests.{le-leb, lt-leb}
use Rattle.curves.proofs.Segments.{spans-up, spans-down}
use Rattle.curves.proofs.reading.spans.Goals as goal

pub returns-then-x0-x : goal.returns-then-x0-x
returns-then-x0-x c = λ y0 y1. rw (spans-up _ _ _ y0 y1 c.if-x0-x1.true, le-leb _ _ c.if-x0-x.true)

pub returns-else-x0-x : goal.returns-else-x0-x
returns-else-x0-x c = λ y0 y1. rw (spans-up _ _ _ y0 y1 c.if-x0-x1.true, lt-leb _ _ c.if-x0-x.false)

pub returns-then-x1-x : goal.returns-then-x1-x
returns-then-x1-x c = λ y0 y1. rw (spans-down _ _ _ y0 y1 c.if-x0-x1.false, le-leb _ _ c.if-x1-x.true)

pub returns-else-x1-x : goal.returns-else-x1-x
returns-else-x1-x c = λ y0 y1. rw (spans-down _ _ _ y0 y1 c.if-x0-x1.false, lt-leb _ _ c.if-x1-x.false)
