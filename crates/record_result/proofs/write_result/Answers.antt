use Prim.Native.Nat.{◌≤◌}
use borrow.Author.Tests.{not-true, not-false}
use lib.ListN.{length}
use mathlib.Core.Bool.{true}
use mathlib.Core.Path.{◌≡◌, sym, ◌∙◌}
use Rattle.lent.proofs.Standing.{counted}
use Rattle.result.proofs.ResultLaws.{no_layer, short_buffer, result_written, number_is, buffer_is}
use Rattle.rules.specs.Record.{is_layer}
use Rattle.rules.specs.Result.{refused_result, result_size}
use borrow.Author.Rules.{rules}
use Rattle.record_result.proofs.write_result.Goals as goal
use Rattle.record_result.proofs.write_result.Lts as lts
use Rattle.record_result.proofs.write_result.Reads as reads
use Rattle.record_result.proofs.write_result.Tie as tie

pub returns-then-not-is_layer : goal.returns-then-not-is_layer
unfolding refused_result
returns-then-not-is_layer c = let no = sym c.is_layer.ensures ∙ c.if-not-is_layer.true in
    let e = no_layer c.args.r c.args.stop c.args.steps c.args.out.now no in record {
      value = c.refused.ensures ∙ number_is e;
      out_after = buffer_is e;
    }

-- the record is a layer
standing : (c : lts.Else1 tie.the-claims reads.Pre reads.Post tie.handed_clauses) → is_layer c.args.r ≡ true
standing c = sym c.is_layer.ensures ∙ c.if-not-is_layer.false

pub result_size-requires : goal.result_size-requires
result_size-requires c = (counted c.args.r (standing c.before)).1

pub returns-then-out-result_size : goal.returns-then-out-result_size
unfolding refused_result
returns-then-out-result_size c = let f = c.before.before.before.before in
    let short = rw c.result_size.ensures at c.if-out-result_size.true in
    let e = short_buffer f.args.r f.args.stop f.args.steps f.args.out.now (standing f) short in record {
      value = c.refused-then-out-result_size.ensures ∙ number_is e;
      out_after = buffer_is e;
    }

-- and its result has room
room : (c : lts.Else2 tie.the-claims reads.Pre reads.Post tie.handed_clauses) →
    result_size c.args.r.layer.frame.elements ≤ length c.args.out.now
room c = rw c.result_size.ensures at c.if-out-result_size.false

pub write_layer-requires : goal.write_layer-requires
write_layer-requires c = record {
  r_value = standing c.before.before.before;
  elements_in_bounds = room c.before;
}

pub returns : goal.returns
returns c = let e = result_written c.args.r c.args.stop c.args.steps c.args.out.now (standing c.before.before.before.before.before.before.before) (room c.before.before.before.before.before) in record {
  value = number_is e;
  out_after = c.write_layer.ensures ∙ buffer_is e;
}
