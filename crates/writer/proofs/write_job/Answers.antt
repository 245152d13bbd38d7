use Prim.Native.Nat.{ℕ}
use mathlib.Core.List.{List}
use mathlib.Core.Path.{◌≡◌, refl, sym, ap, subst, ◌∙◌}
use Rattle.rules.specs.Job.{Description}
use Rattle.writer.specs.Writing.{Writing, writing, written_number, writing_number}
use Rattle.rules.specs.declared.answers.Refusal.{Refusal}
use Rattle.std.specs.Prelude.{Result, Ok}
use Rattle.writer.specs.RoundTrips.{RoundTrips}
use Rattle.writer.proofs.RoundTrips.{round_trips}
use Rattle.writer.proofs.WritingLaws.{cause_writes, short_writes, room_writes, accepted_header}
use Rattle.numbers.proofs.Failures.{err_is}
use Rattle.writer.proofs.write_job.Goals as goal

pub accept-requires : goal.accept-requires
accept-requires c = record { water_len = (c.requires.water_len, refl) }

pub job_length-length-requires : goal.job_length-length-requires
job_length-length-requires c = accepted_header _ (sym c.in_ok-accept.ensures.value)

-- what is answered, the buffer that is left, the answer's number, and both round trips
answers : (d : Description) (buffer : List ℕ) {answer : Result ℕ Refusal} {left : List ℕ} → writing d buffer ≡ record { answer = answer; buffer = left } →
    (answer ≡ (writing d buffer).answer) × ((left ≡ (writing d buffer).buffer) × ((written_number answer ≡ writing_number d buffer) × RoundTrips d buffer answer left))
unfolding writing_number
answers d buffer e =
    let is = sym (ap (λ (w : Writing). w.answer) e) in
    (is, (sym (ap (λ (w : Writing). w.buffer) e), (ap written_number is, subst (λ (w : Writing). RoundTrips d buffer w.answer w.buffer) e (round_trips d buffer))))

pub returns-in_err-accept : goal.returns-in_err-accept
returns-in_err-accept c =
    let out = c.args.out.now in
    let t = answers _ out (cause_writes _ out (sym c.in_err-accept.ensures.value)) in
    let e = err_is _ _ c.from_residual.ensures.1 in record {
      value = e ∙ t.0;
      out_after = t.1.0;
      result_value = ap written_number e ∙ t.1.1.0;
      round_trips = rw e t.1.1.1;
    }

pub returns-then-out-length : goal.returns-then-out-length
returns-then-out-length c =
    let short = short_writes _ c.args.out.now (sym c.in_ok-accept.ensures.value) (rw c.job_length-length.ensures at c.if-out-length.true) in
    let t = answers _ _ short in record {
      value = t.0;
      out_after = t.1.0;
      result_value = t.1.1.0;
      round_trips = t.1.1.1;
    }

pub write_bytes-requires : goal.write_bytes-requires
write_bytes-requires c =
    record { header_value = (accepted_header _ (sym c.in_ok-accept.ensures.value), rw c.job_length-length.ensures at c.if-out-length.false) }

pub returns : goal.returns
returns c =
    let whole = room_writes _ c.args.out.now (sym c.in_ok-accept.ensures.value) (rw c.job_length-length.ensures at c.if-out-length.false) in
    let t = answers _ _ (whole ∙ λ i. record { answer = Ok (sym c.job_length-length.ensures i); buffer = sym c.write_bytes.ensures i }) in record {
      value = t.0;
      out_after = t.1.0;
      result_value = t.1.1.0;
      round_trips = t.1.1.1;
    }
