use mathlib.Core.Path.{◌≡◌, refl, sym, ap, ◌∙◌}
use native.Mathlib.Omega.{arith}
use Rattle.division.proofs.FlowLaws.{returns_as, short_flows, short_remainders, room_enough, run_count}
use Rattle.division.specs.JobFlows.{call_flows}
use Rattle.lent.proofs.Standing.{counted}
use Rattle.numbers.proofs.Signed.{read_back}
use Rattle.record_flows.specs.Dividing.{entry_count}
use Rattle.rules.specs.declared.record.Record.{Record}
use Rattle.division.proofs.run_to_flows.Goals as goal
use Rattle.division.proofs.run_to_flows.Lts as lts
use Rattle.division.proofs.run_to_flows.Reads as reads
use Rattle.division.proofs.run_to_flows.Tie as tie

-- the run leaves as many faces
same_count : (c : lts.After-run_job tie.the-claims reads.Pre reads.Post tie.handed_clauses) → entry_count c.run_job.result ≡ entry_count c.args.r
same_count c =
    ap entry_count c.run_job.ensures ∙ run_count c.args.job.now c.args.r

pub face_count-count-requires : goal.face_count-count-requires
face_count-count-requires c = counted c.args.r c.requires

pub returns-then-flows-count : goal.returns-then-flows-count
returns-then-flows-count c = let t = returns_as (short_flows c.args.job.now c.args.r c.args.t c.args.flows.now c.args.remainders.now (rw (← c.face_count-count.ensures.0) (omega arith)))
    (read_back {z = c.minus_number.result} (record { sfits = c.minus_number.type_inv }) ∙ c.minus_number.ensures, (refl, refl)) in record {
      value = t.0;
      flows_after = t.1.0;
      remainders_after = t.1.1;
    }

pub returns-then-remainders-count : goal.returns-then-remainders-count
returns-then-remainders-count c = let t = returns_as (short_remainders c.args.job.now c.args.r c.args.t c.args.flows.now c.args.remainders.now (rw (← c.face_count-count.ensures.0) (omega arith)) (rw (← c.face_count-count.ensures.0) (omega arith)))
    (read_back {z = c.minus_number-then-remainders-count.result} (record { sfits = c.minus_number-then-remainders-count.type_inv }) ∙ c.minus_number-then-remainders-count.ensures, (refl, refl)) in record {
      value = t.0;
      flows_after = t.1.0;
      remainders_after = t.1.1;
    }

pub call_flows-requires : goal.call_flows-requires
call_flows-requires c =
    let j = c.before.before.before in
    (λ _. rw (same_count j) (rw (← j.face_count-count.ensures.0) (omega arith)), λ _. rw (same_count j) (rw (← j.face_count-count.ensures.0) (omega arith)))

pub returns : goal.returns
returns c = let t = let told = c.call_flows.ensures in
    returns_as (room_enough c.args.job.now c.args.r c.args.t c.args.flows.now c.args.remainders.now (rw (← c.face_count-count.ensures.0) (omega arith)) (rw (← c.face_count-count.ensures.0) (omega arith)))
    (returns_as (ap (λ (r : Record). call_flows r c.args.t c.args.flows.now c.args.remainders.now) (sym c.run_job.ensures))
    (read_back {z = c.call_flows.result} (record { sfits = c.call_flows.type_inv }) ∙ told.value, (told.flows_after, told.remainders_after))) in record {
      value = t.0;
      flows_after = t.1.0;
      remainders_after = t.1.1;
    }
