use lib.IntN.{pos}
use mathlib.Core.Path.{sym, ◌∙◌}
use native.Mathlib.Omega.{arith}
use Prim.Native.Nat.{◌≤◌}
use Rattle.division.proofs.FlowLaws.{call_returns}
use Rattle.division.specs.JobFlows.{divided_number}
use Rattle.numbers.proofs.Interval.{within_fits, within_le, within_pos}
use Rattle.numbers.proofs.Signed.{read_back, read_unsigned}
use Rattle.numbers.specs.Interval.{Within}
use Rattle.record_flows.proofs.Answering.{entries_most}
use Rattle.division.proofs.call_flows.Goals as goal
use Rattle.division.proofs.call_flows.Lts as lts
use Rattle.division.proofs.call_flows.Reads as reads
use Rattle.division.proofs.call_flows.Tie as tie

-- how many entries there are at most
module _ (c : lts.Past-After-known_told tie.the-claims reads.Pre reads.Post tie.handed_clauses) where
  count_most : c.in-Ok.count ≤ 129
  count_most =
      entries_most c.args.r c.args.t (c.divide_into-answer.ensures.long_division _ c.in-Ok.is)

  count-within : Within (pos c.in-Ok.count) 129
  count-within = within_le (within_pos c.in-Ok.count) count_most

pub overflow_cast-result : goal.overflow_cast-result
overflow_cast-result c = within_fits tt (count-within c)

pub returns-in-Ok : goal.returns-in-Ok
unfolding divided_number
returns-in-Ok c = let t = let told = c.divide_into-answer.ensures in
    call_returns c.args.r c.args.t c.args.flows.now c.args.remainders.now (sym c.in-Ok.is ∙ told.value) told.flows_after told.remainders_after (read_unsigned c.in-Ok.count (omega (arith, count_most c))) in record {
      value = t.0;
      flows_after = t.1.0;
      remainders_after = t.1.1;
    }

pub returns-in-Err : goal.returns-in-Err
unfolding divided_number
returns-in-Err c = let t = let told = c.divide_into-answer.ensures in
    call_returns c.args.r c.args.t c.args.flows.now c.args.remainders.now (sym c.in-Err.is ∙ told.value) told.flows_after told.remainders_after
    (read_back {z = c.minus_number.result} (record { sfits = c.minus_number.type_inv }) ∙ c.minus_number.ensures) in record {
      value = t.0;
      flows_after = t.1.0;
      remainders_after = t.1.1;
    }
