use borrow.Author.Rules.{rules}
use Prim.Native.Nat.{ℕ}
use mathlib.Core.List.{List}
use mathlib.Core.Path.{◌≡◌, refl, sym, ap, ◌∙◌}
use Rattle.numbers.specs.Arrays.{zeros}
use Rattle.job.specs.Pairs.{Pairs}
use Rattle.opening.specs.Opened.{opened_job, left_description}
use Rattle.opening.proofs.OpenedLaws.{opened_blank, opened_done, opened_record_lem}
use Rattle.opening.specs.declared.Opened.{Opened}
use Rattle.std.specs.Prelude.{Ok}
use Rattle.rules.specs.Job.{counts_of}
use Rattle.rules.specs.Opening.{opening, opening_numbers}
use Rattle.rules.specs.Outcome.{answer_numbers}
use Rattle.rules.specs.Record.{layer_of, record_of, soil_of}
use Rattle.rules.specs.declared.answers.Answer.TheVariants.{Done}
use Rattle.rules.specs.declared.answers.Answered.{Answered}
use Rattle.rules.specs.declared.job.Header.{Header}
use Rattle.rules.specs.declared.record.CurveCounts.{CurveCounts}
use Rattle.rules.specs.declared.record.Frame.{Frame}
use Rattle.rules.specs.declared.record.Progress.{Progress}
use Rattle.record_opening.proofs.open.Goals as goal

-- an accepted job, by the counts of its header and the arrays that are left
accepted : (job : List ℕ) {o : Opened} {counts : CurveCounts}
    {solids water void stress conductivity_void conductivity table_time table_load : List ℕ} → opened_job job ≡ Ok o →
    counts ≡ counts_of o.header → Pairs (left_description job) solids water void stress conductivity_void conductivity table_time table_load →
    record {
      answer = Done;
      after = record_of (soil_of counts void stress conductivity_void conductivity) (layer_of o.frame o.progress solids water table_time table_load);
    } ≡ opening job
accepted job e counted held =
    rw counted (λ i. record { answer = sym (opened_done job e) i; after = sym (opened_record_lem job e held) i })

numbered : {a b : Answered} → a ≡ b → answer_numbers a.answer ≡ answer_numbers b.answer
numbered e = ap (λ (a : Answered). answer_numbers a.answer) e

pub open_into-opened-requires : goal.open_into-opened-requires
unfolding zeros
open_into-opened-requires c = record {
  blank = record {
    solids_blank = refl;
    water_blank = refl;
    compressibility_stress_blank = refl;
    compressibility_void_blank = refl;
    conductivity_void_blank = refl;
    conductivity_blank = refl;
    table_time_blank = refl;
    table_load_blank = refl;
  };
  burden_len = refl;
}

pub returns-in-Err : goal.returns-in-Err
unfolding opening_numbers
returns-in-Err c = let refused = c.refused.ensures ∙ sym (opened_blank _ _ (sym c.open_into-opened.ensures.value ∙ c.in-Err.is)) in record {
  value = refused;
  answer_value = numbered refused;
}

pub returns-in-Ok : goal.returns-in-Ok
unfolding opening_numbers
returns-in-Ok c = let opened = sym c.open_into-opened.ensures.value ∙ c.in-Ok.is in
    let opens = c.done.ensures ∙ accepted _ opened c.curve_counts.ensures c.open_into-opened.ensures.pairs in record {
      value = opens;
      answer_value = numbered opens;
    }
