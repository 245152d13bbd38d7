use native.Mathlib.Omega.{arith}
use mathlib.Core.Path.{sym, ◌∙◌}
use Rattle.numbers.proofs.Indices.{all_rest, index_fails, index_goes, index_ends}
use Rattle.rules.specs.Curve.{points}
use Rattle.start.proofs.Given.{each_on}
use Rattle.start.proofs.all_on_curve.Invariants.{on_at}
use Rattle.start.proofs.all_on_curve.Goals as goal

pub loop-j-init : goal.loop-j-init
loop-j-init c = all_rest _ _

pub effective_stress-found-requires-clause-solids_nonzero : goal.effective_stress-found-requires-clause-solids_nonzero
effective_stress-found-requires-clause-solids_nonzero c = c.requires.by_index c.loop-j.j (omega arith)

pub returns-then-not-is_on : goal.returns-then-not-is_on
returns-then-not-is_on c =
    let a = c.args in
    let e = c.effective_stress-found.ensures.value_value.0 in
    index_fails a.elements (on_at (points a.skeleton.points a.void.now a.stress.now) a.solids.now a.water.now) c.loop-j.j c.loop-j.invariant (omega arith)
    (rw e at (sym c.is_on.ensures ∙ c.if-not-is_on.true)) ∙ sym (each_on _ _ _ _)

pub loop-j-preserved : goal.loop-j-preserved
loop-j-preserved c =
    let a = c.args in
    let e = c.effective_stress-found.ensures.value_value.0 in
    index_goes a.elements (on_at (points a.skeleton.points a.void.now a.stress.now) a.solids.now a.water.now) c.loop-j.j c.loop-j.invariant (omega arith)
    (rw e at (sym c.is_on.ensures ∙ c.if-not-is_on.false))

pub returns : goal.returns
returns c =
    let a = c.args in
    index_ends a.elements (on_at (points a.skeleton.points a.void.now a.stress.now) a.solids.now a.water.now) c.loop-j.j c.loop-j.invariant (omega arith) ∙ sym (each_on _ _ _ _)
