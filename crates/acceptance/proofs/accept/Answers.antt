use mathlib.Core.Path.{◌≡◌, sym, ap, ◌∙◌}
use Rattle.description.proofs.Checking.{checked_tells}
use Rattle.acceptance.proofs.AcceptingLaws.{cause_accepts, header_outside, header_within}
use Rattle.description.specs.Lent.{description_of}
use Rattle.description.specs.declared.fields.Levels.{Levels}
use Rattle.numbers.proofs.Failures.{err_is}
use Rattle.rules.specs.Job.{Description}
use Rattle.rules.specs.Opening.{accepted, acceptance_number, accepted_number}
use Rattle.rules.specs.declared.answers.Accepted.{Accepted}
use Rattle.rules.specs.declared.answers.Refusal.{Refusal}
use Rattle.std.specs.Prelude.{Result}
use Rattle.rules.specs.declared.answers.Refusal.TheVariants.{HeaderOutside}
use Rattle.acceptance.proofs.accept.Goals as goal
use Rattle.acceptance.proofs.accept.Lts as lts
use Rattle.acceptance.proofs.accept.Reads as reads
use Rattle.acceptance.proofs.accept.Tie as tie

-- the description that is lent
abbrev d : lts.Start tie.the-claims reads.Pre reads.Post tie.handed_clauses → Description
d s =
    description_of s.args.header s.args.void.now s.args.stress.now s.args.conductivity_void.now s.args.conductivity.now
    s.args.solids.now s.args.water.now s.args.table_time.now s.args.table_load.now

-- an answer in the paper's number
numbered : (of : Description) {answer : Result Accepted Refusal} → answer ≡ accepted of → acceptance_number answer ≡ accepted_number of
unfolding accepted_number
numbered of e = ap acceptance_number e

pub returns-then-not-header_sound : goal.returns-then-not-header_sound
returns-then-not-header_sound c = let k = c.before in
    let a = cause_accepts (d k.before) HeaderOutside
    (header_outside (d k.before) (sym k.header_sound.ensures ∙ c.if-not-header_sound.true)) in record {
      value = a.answers;
      water_after = a.water_left;
      burden_after = a.burden_left _;
      result_value = numbered _ a.answers;
    }

pub described_cause-requires : goal.described_cause-requires
described_cause-requires c =
    let t = sym c.header_sound.ensures ∙ c.if-not-header_sound.false in record { header_value = t }

pub returns-in_err-levels : goal.returns-in_err-levels
returns-in_err-levels c =
    let kept = sym c.header_sound.ensures ∙ c.if-not-header_sound.false in
    let a = cause_accepts _ _ (header_within _ kept ∙ checked_tells _ c.in_err-levels.ensures) in
    let refused = err_is _ _ c.from_residual.ensures.1 ∙ a.answers in record {
      value = refused;
      water_after = a.water_left;
      burden_after = a.burden_left _;
      result_value = numbered _ refused;
    }

pub accept_start-requires : goal.accept_start-requires
accept_start-requires c =
    let told = checked_tells _ c.in_ok-levels.ensures in record {
      header_value = (sym c.header_sound.ensures ∙ c.if-not-header_sound.false, told.0);
      levels_value = (ap (λ (l : Levels). l.top) told.1, ap (λ (l : Levels). l.bottom) told.1);
      water_len = c.requires.water_len;
    }

pub returns : goal.returns
returns c = let a = c.accept_start.ensures in record {
  value = a.value;
  water_after = a.water_after;
  burden_after = a.burden_after;
  result_value = numbered _ a.value;
}
