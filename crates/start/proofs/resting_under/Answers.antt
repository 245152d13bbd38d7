use native.Mathlib.Omega.{arith}
use mathlib.Core.Path.{sym, ◌∙◌}
use Rattle.start.proofs.Ends.{last_stress_lem}
use Rattle.start.proofs.Heights.{under_last, above_last}
use Rattle.start.proofs.resting_under.Goals as goal

pub returns-then-stress-skeleton : goal.returns-then-stress-skeleton
returns-then-stress-skeleton c =
    let last = last_stress_lem c.args.skeleton.points c.args.void.now c.args.stress.now (omega arith) in
    sym (above_last _ _ _ c.args.solids (rw last c.if-stress-skeleton.true))

pub returns : goal.returns
returns c =
    let last = last_stress_lem c.args.skeleton.points c.args.void.now c.args.stress.now (omega arith) in
    c.resting_water.ensures ∙ sym (under_last _ _ _ c.args.solids (rw last c.if-stress-skeleton.false))
