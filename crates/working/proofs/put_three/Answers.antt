use native.Mathlib.Omega.{arith}
use lib.ListN.{length-set}
use Rattle.working.proofs.Storing.{three_stores}
use Rattle.working.proofs.put_three.Goals as goal

pub bounds-out-at-2 : goal.bounds-out-at-2
bounds-out-at-2 c = simp length-set (omega arith)

pub bounds-out-at-3 : goal.bounds-out-at-3
bounds-out-at-3 c = simp length-set (omega arith)

pub returns : goal.returns
returns c = three_stores c.args.out.now c.args.at _ _ _
