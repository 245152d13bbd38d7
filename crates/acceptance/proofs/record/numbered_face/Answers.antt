use borrow.Author.Tests.{eq-eqb, ne_eqb}
use Rattle.rules.specs.Job.{numbered_face}
use Rattle.acceptance.proofs.record.numbered_face.Goals as goal

pub returns-then-number-eq0 : goal.returns-then-number-eq0
unfolding numbered_face
returns-then-number-eq0 c = rw (eq-eqb _ _ c.if-number-eq0.true, numbered_face)

pub returns : goal.returns
unfolding numbered_face
returns c = rw (ne_eqb _ _ c.if-number-eq0.false, numbered_face)
