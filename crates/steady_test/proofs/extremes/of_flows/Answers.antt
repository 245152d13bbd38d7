use borrow.Author.Rules.{rules}
use native.Mathlib.Omega.{arith}
use Prim.Native.Nat.{◌+◌}
use Rattle.steady_test.proofs.ByExtremes.{extremes_more}
use Rattle.steady_test.proofs.FlowsOver.{excess_in, resistance_in, flow_between, flow_out}
use Rattle.steady_test.specs.Extremes.{extremes_to}
use Rattle.steady_test.specs.Flows.{lowest_flow}
use Rattle.steady_test.proofs.extremes.of_flows.Goals as goal

pub bottom_flow-lowest-requires-clause-within : goal.bottom_flow-lowest-requires-clause-within
bottom_flow-lowest-requires-clause-within c =
    let lowest = excess_in _ c.requires.stands 0 (omega arith) in search rules

pub bottom_flow-lowest-requires-clause-resistance_nonzero : goal.bottom_flow-lowest-requires-clause-resistance_nonzero
bottom_flow-lowest-requires-clause-resistance_nonzero c =
    let lowest = resistance_in _ c.requires.stands 0 (omega arith) in search rules

pub loop-j-init : goal.loop-j-init
unfolding extremes_to lowest_flow
loop-j-init c = let lowest = excess_in _ c.requires.stands 0 (omega arith) in search rules

pub overflow_sub-difference : goal.overflow_sub-difference
overflow_sub-difference c =
    let here = excess_in _ c.requires.stands c.loop-j.j (omega arith) in
    let above = excess_in _ c.requires.stands (c.loop-j.j + 1) (omega arith) in search rules

pub overflow_add-resistance : goal.overflow_add-resistance
overflow_add-resistance c =
    let here = resistance_in _ c.requires.stands c.loop-j.j (omega arith) in
    let above = resistance_in _ c.requires.stands (c.loop-j.j + 1) (omega arith) in search rules

pub flow-flow-requires-clause-within : goal.flow-flow-requires-clause-within
flow-flow-requires-clause-within c =
    let here = excess_in _ c.requires.stands c.loop-j.j (omega arith) in
    let above = excess_in _ c.requires.stands (c.loop-j.j + 1) (omega arith) in search rules

pub flow-flow-requires-clause-resistance_nonzero : goal.flow-flow-requires-clause-resistance_nonzero
flow-flow-requires-clause-resistance_nonzero c =
    let here = resistance_in _ c.requires.stands c.loop-j.j (omega arith) in
    let above = resistance_in _ c.requires.stands (c.loop-j.j + 1) (omega arith) in search rules

pub loop-j-preserved : goal.loop-j-preserved
loop-j-preserved c =
    let here = excess_in _ c.requires.stands c.loop-j.j (omega arith) in
    let above = excess_in _ c.requires.stands (c.loop-j.j + 1) (omega arith) in
    search (rules, extremes_more, flow_between)

pub outward-last-requires-clause-within : goal.outward-last-requires-clause-within
outward-last-requires-clause-within c =
    let last = excess_in _ c.requires.stands c.loop-j.j (omega arith) in search rules

pub outward-last-requires-clause-resistance_nonzero : goal.outward-last-requires-clause-resistance_nonzero
outward-last-requires-clause-resistance_nonzero c =
    let last = resistance_in _ c.requires.stands c.loop-j.j (omega arith) in search rules

pub returns : goal.returns
unfolding extremes_to
returns c =
    let last = excess_in _ c.requires.stands c.loop-j.j (omega arith) in search (rules, flow_out)
