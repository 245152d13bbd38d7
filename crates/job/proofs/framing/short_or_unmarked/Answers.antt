use borrow.Author.Tests.{lt-ltb, le-ltb}
use Rattle.job.proofs.framing.short_or_unmarked.Goals as goal

pub returns-then-job-lt-HEADER_LENGTH : goal.returns-then-job-lt-HEADER_LENGTH
returns-then-job-lt-HEADER_LENGTH c = rw (lt-ltb _ _ c.if-job-lt-HEADER_LENGTH.true)

pub returns-else-job-lt-HEADER_LENGTH : goal.returns-else-job-lt-HEADER_LENGTH
returns-else-job-lt-HEADER_LENGTH c = rw (le-ltb _ _ c.if-job-lt-HEADER_LENGTH.false, c.marked.ensures)
