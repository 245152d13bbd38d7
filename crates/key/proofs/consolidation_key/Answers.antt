use Prim.Native.Nat.{ℕ, ◌≤◌}
use native.Mathlib.Omega.{arith}
use lib.ListN.{length}
use mathlib.Core.Bool.{true}
use mathlib.Core.List.{List}
use mathlib.Core.Path.{◌≡◌, refl, sym, ap, subst, ◌∙◌}
use Rattle.claims.proofs.Opened.{opened}
use Rattle.job.specs.Pairs.{Pairs}
use Rattle.key.proofs.KeyLaws.{key-refused, opened_layer, opened_clock, opened_long, end_and_budget, key_run}
use Rattle.lent.specs.Burdens.{burdens_in}
use Rattle.numbers.specs.Arrays.{zeros}
use Rattle.opening.specs.Opened.{opened_job, left_description, left_burden}
use Rattle.opening.specs.declared.Opened.{Opened}
use Rattle.opening.proofs.OpenedLaws.{opened_refused, opened_done, opened_header, opened_record_lem, opened_burden}
use Rattle.std.specs.Prelude.{Ok}
use Rattle.result.proofs.ResultLaws.{number_is, buffer_is}
use Rattle.rules.specs.Job.{counts_of, frame_of}
use Rattle.rules.specs.Key.{run_to_result, key}
use Rattle.rules.specs.Opening.{opened_record, opening}
use Rattle.quantities.specs.Quantities.{clock_limits, budget_limits}
use Rattle.rules.specs.Record.{soil_of, layer_of, record_of, is_layer}
use Rattle.numbers.specs.Sums.{sum}
use Rattle.rules.specs.Result.{Returned, refused_result}
use Rattle.rules.specs.declared.answers.Answer.TheVariants.{Done}
use Rattle.rules.specs.declared.job.Header.{Header}
use Rattle.rules.specs.declared.record.Frame.{Frame}
use Rattle.rules.specs.declared.record.Record.{Record}
use Rattle.key.proofs.consolidation_key.Goals as goal

pub open_into-opened-requires : goal.open_into-opened-requires
unfolding zeros
open_into-opened-requires c = record {
  blank = record {
    solids_blank = refl;
    water_blank = refl;
    compressibility_void_blank = refl;
    compressibility_stress_blank = refl;
    conductivity_void_blank = refl;
    conductivity_blank = refl;
    table_time_blank = refl;
    table_load_blank = refl;
  };
  burden_len = refl;
}

pub returns-in-Err : goal.returns-in-Err
unfolding refused_result
returns-in-Err c = let job = c.args.job.now in
    let e = key-refused job c.args.res.now c.in-Err.cause (opened_refused job c.in-Err.cause (sym c.open_into-opened.ensures.value ∙ c.in-Err.is)) in record {
      value = c.refused.ensures ∙ number_is e;
      res_after = buffer_is e;
    }

-- an accepted job, by what opening it gives and the arrays that are left
module _ (job : List ℕ) (o : Opened) (accepted : opened_job job ≡ Ok o)
    {solids water void stress conductivity_void conductivity table_time table_load : List ℕ}
    (held : Pairs (left_description job) solids water void stress conductivity_void conductivity table_time table_load) where
  done : (opening job).answer ≡ Done
  done = opened_done job accepted

  abbrev lent : Record
  lent =
      record_of (soil_of (counts_of o.header) void stress conductivity_void conductivity)
      (layer_of o.frame o.progress solids water table_time table_load)

  lent_is : lent ≡ (opening job).after
  lent_is = sym (opened_record_lem job accepted held)

  -- the frame is the header's
  frame_is : o.frame ≡ frame_of o.header (sum (opened job done).water)
  unfolding opened_record
  frame_is =
      ap (λ (r : Record). r.layer.frame) (lent_is ∙ (opened job done).left) ∙
      ap (λ (h : Header). frame_of h (sum (opened job done).water)) (sym (opened_header job accepted))

  burden_is : {burden : List ℕ} → burden ≡ left_burden job (zeros 128) → burden ≡ burdens_in o.frame solids
  unfolding frame_of zeros
  burden_is left = left ∙ opened_burden job accepted held _ ∙ ap (λ (f : Frame). burdens_in f solids) (sym frame_is)

  can-run : (o.progress.clock.0 ≤ o.header.end) × (o.header.end ≤ clock_limits.most) × (o.header.budget ≤ budget_limits.most)
  can-run =
      let at-0 : o.progress.clock.0 ≡ 0 = ap (λ (r : Record). r.layer.progress.clock.0) lent_is ∙ opened_clock job done in
      let end_is = ap (λ (h : Header). h.end) (opened_header job accepted) in
      let budget-is = ap (λ (h : Header). h.budget) (opened_header job accepted) in
      let (end_most, budget_most) = end_and_budget job done in
      (omega arith, omega arith, omega arith)

  run_is : (result : List ℕ) → key job result ≡ run_to_result lent o.header.end o.header.budget result
  run_is result =
      let run : Record → Header → Returned = λ x h. run_to_result x h.end h.budget result in
      key_run job done result ∙ ap (λ (h : Header). run (opening job).after h) (sym (opened_header job accepted)) ∙
      ap (λ (x : Record). run x o.header) (sym lent_is)

pub run_to_result-requires : goal.run_to_result-requires
unfolding zeros
run_to_result-requires c =
    let job = c.args.job.now in
    let told = c.open_into-opened.ensures in
    let e = sym told.value ∙ c.in-Ok.is in record {
      r_value = subst (λ (r : Record). is_layer r ≡ true) (sym (lent_is job _ e told.pairs)) (opened_layer job (done job _ e told.pairs));
      clock_le_end = can-run job _ e told.pairs;
      water_len =
          (ap (λ (r : Record). length r.layer.water) (lent_is job _ e told.pairs) ∙ opened_long job (done job _ e told.pairs), burden_is job _ e told.pairs told.burden_after);
    }

pub returns-in-Ok : goal.returns-in-Ok
returns-in-Ok c =
    let told = c.open_into-opened.ensures in
    let e = run_is c.args.job.now _ (sym told.value ∙ c.in-Ok.is) told.pairs c.args.res.now in record {
      value = c.run_to_result.ensures.value ∙ number_is e;
      res_after = c.run_to_result.ensures.out_after ∙ buffer_is e;
    }
