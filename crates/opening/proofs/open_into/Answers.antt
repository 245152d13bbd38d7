use Prim.Native.Nat.{ℕ}
use lib.ListN.{length}
use mathlib.Core.List.{List}
use mathlib.Core.Path.{◌≡◌, sym, ap, ◌∙◌}
use Rattle.acceptance.specs.Accepting.{accepted_burden}
use Rattle.description.specs.Lent.{description_of}
use Rattle.job.specs.Framing.{framing}
use Rattle.job.proofs.FramingLaws.{framed_header, framed_kept, framed_length}
use Rattle.job.specs.Pairs.{Pairs}
use Rattle.rules.specs.declared.answers.Accepted.{Accepted}
use Rattle.rules.specs.declared.answers.Refusal.{Refusal}
use Rattle.std.specs.Prelude.{Result, Ok, Err}
use Rattle.opening.proofs.Reading.{lent_described, water_long}
use Rattle.opening.specs.Opened.{opened_by, opened_job, left_description, left_burden}
use Rattle.opening.proofs.OpenedLaws.{unframed_opened, unframed_pairs, unframed_burden, framed_opened, framed_pairs, framed_burden}
use Rattle.rules.specs.Job.{Description, described}
use Rattle.rules.specs.Opening.{accepted, accepted_water}
use Rattle.rules.specs.declared.job.Header.{Header}
use Rattle.numbers.proofs.Failures.{err_is}
use Rattle.opening.proofs.open_into.Goals as goal

pub returns-in_err-header : goal.returns-in_err-header
returns-in_err-header c =
    let unframed : framing c.args.job.now ≡ Err _ = sym c.in_err-header.ensures in record {
      value = err_is _ _ c.from_residual.ensures.1 ∙ sym (unframed_opened _ _ unframed);
      pairs = unframed_pairs _ _ unframed c.requires.blank;
      burden_after = sym (unframed_burden _ _ unframed _);
    }

pub read_pairs-requires : goal.read_pairs-requires
read_pairs-requires c =
    let job = c.args.job.now in
    let header = c.in_ok-header.header in
    let sound : framing job ≡ Ok header = sym c.in_ok-header.ensures in
    let header_is = framed_header job header sound in record {
      header_value = header_is;
      header_value_2 = (rw header_is (framed_kept job header sound), rw header_is (framed_length job header sound));
      blank = c.requires.blank;
    }

pub accept-requires : goal.accept-requires
accept-requires c =
    let job = c.args.job.now in
    let header = c.in_ok-header.header in
    let sound : framing job ≡ Ok header = sym c.in_ok-header.ensures in record {
      water_len = (ap (λ (l : List ℕ). length l) c.read_pairs.ensures.water_held ∙ water_long job (framed_kept job header sound), c.requires.burden_len);
    }

-- what accepting the description of a framed job leaves is what opening the job does
module _ (job : List ℕ) (header : Header) (sound : framing job ≡ Ok header)
    {solids water void stress conductivity_void conductivity table_time table_load : List ℕ}
    (read : Pairs (described job) solids water void stress conductivity_void conductivity table_time table_load) where
  lent : description_of header void stress conductivity_void conductivity solids water table_time table_load ≡ described job
  lent = lent_described (described job) (framed_header job header sound) read

  answered : {answer : Result Accepted Refusal} →
      answer ≡ accepted (description_of header void stress conductivity_void conductivity solids water table_time table_load) →
      opened_by header answer ≡ opened_job job
  answered is = ap (opened_by header) (is ∙ ap accepted lent) ∙ sym (framed_opened job header sound)

  left-pairs : {water' : List ℕ} →
      water' ≡ accepted_water (description_of header void stress conductivity_void conductivity solids water table_time table_load) →
      Pairs (left_description job) solids water' void stress conductivity_void conductivity table_time table_load
  left-pairs is = framed_pairs job header sound read (is ∙ ap accepted_water lent)

  burden_stays : (before : List ℕ) {burden : List ℕ} →
      burden ≡ accepted_burden (description_of header void stress conductivity_void conductivity solids water table_time table_load) before →
      burden ≡ left_burden job before
  burden_stays before is = is ∙ ap (λ (d : Description). accepted_burden d before) lent ∙ sym (framed_burden job header sound before)

pub returns-in_err-accepted : goal.returns-in_err-accepted
unfolding opened_by
returns-in_err-accepted c =
    let job = c.args.job.now in
    let header = c.in_ok-header.header in
    let sound : framing job ≡ Ok header = sym c.in_ok-header.ensures in
    let read = c.read_pairs.ensures in
    let told = c.in_err-accepted.ensures in record {
      value = err_is _ _ c.from_residual-in_err-accepted.ensures.1 ∙ answered job header sound read told.value;
      pairs = left-pairs job header sound read told.water_after;
      burden_after = burden_stays job header sound read c.args.burden.now told.burden_after;
    }

pub returns : goal.returns
unfolding opened_by
returns c =
    let job = c.args.job.now in
    let header = c.in_ok-header.header in
    let sound : framing job ≡ Ok header = sym c.in_ok-header.ensures in
    let read = c.read_pairs.ensures in
    let told = c.in_ok-accepted.ensures in record {
      value = answered job header sound read told.value;
      pairs = left-pairs job header sound read told.water_after;
      burden_after = burden_stays job header sound read c.args.burden.now told.burden_after;
    }
