-- Term 3 holds.
use Prim.Native.Nat.{ℕ}
use mathlib.Core.List.{List}
use Rattle.rules.specs.Job.{described, job_site}
use Rattle.rules.specs.Opening.{opening}
use Rattle.rules.specs.Tally.{begun, tally_site}
use Rattle.rules.specs.declared.answers.Call.{Call}
use Rattle.claims.proofs.After as after
use Rattle.claims.proofs.Opened.{opened, opened_record_lem}
use Rattle.claims.specs.Term3.{Term3Holds}

pub term3 : (job : List ℕ) (calls : List Call) → Term3Holds job calls
unfolding tally_site begun
term3 job calls accepted =
    let site = job_site (described job) in
    let o = opened job accepted in
    let w = o.water in
    let r = (opening job).after in
    let h = opened_record_lem job accepted in (
      w,
      o.starts,
      record {
        solids_as_tallied = after.same_solids site w r h calls;
        state_as_tallied = after.same_state site w r h calls;
        starting_water_as_tallied = after.starting_water site w r h calls;
        answers_as_tallied = after.same_answers site w r h calls;
        cause_11_never_arises = after.no_refusal_11 site w r h calls;
        water_balances = after.balanced site w r h calls;
        settlement_of_heights = after.settlement_is site w r h calls;
        settlement_by_outflows = after.settles site w r h calls;
        solids_of_the_job = after.job_solids site w r h calls;
        excesses_stay_between = after.bounded site w r h calls;
        no_step_lowers_an_outflow = after.not_lowered site w r h calls;
      },
    )
