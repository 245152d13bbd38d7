use Prim.Native.Nat.{ℕ}
use native.Mathlib.Omega.{arith}
use mathlib.Core.List.{List}
use mathlib.Core.Path.{◌≡◌, sym, ap, ◌∙◌}
use Rattle.field_data.specs.Words.{answers_in}
use Rattle.key.proofs.ReadingLaws.{Alike, alike}
use Rattle.key.proofs.ToldLaws.{key_told, key_answers}
use Rattle.numbers.specs.Arrays.{overlaid}
use Rattle.result.proofs.ResultLaws.{number_is, buffer_is}
use Rattle.rules.specs.Key.{key}
use Rattle.key.proofs.job_readings.answer_by_key.Goals as goal
use Rattle.key.proofs.job_readings.answer_by_key.Lts as lts
use Rattle.key.proofs.job_readings.answer_by_key.Reads as reads
use Rattle.key.proofs.job_readings.answer_by_key.Tie as tie

-- what the key returned
module _ (k : lts.After-consolidation_key tie.the-claims reads.Pre reads.Post tie.handed_clauses) where
  abbrev s : lts.Start tie.the-claims reads.Pre reads.Post tie.handed_clauses
  s = k.before.before.before.before.before.before

  abbrev job : List ℕ
  job = s.args.job.now

  abbrev readings : List ℕ
  readings = s.args.readings.now

  abbrev answers : List ℕ
  answers = s.args.answers.now

  abbrev before : List ℕ
  before = s.args.res.now

  abbrev after : List ℕ
  after = k.consolidation_key-number.new.res

  abbrev number : ℕ
  number = k.consolidation_key-number.result

  number-told : number ≡ (key job before).number
  number-told = k.consolidation_key-number.ensures.value

  after-told : after ≡ (key job before).buffer
  after-told = k.consolidation_key-number.ensures.res_after

  both : Alike job readings answers before
  both = alike job readings answers before s.requires

pub returns-then-number-ne0 : goal.returns-then-number-ne0
returns-then-number-ne0 c = let k = c.before.before.before.before in
    let e = (both k).refused_alike (λ z. c.if-number-ne0.true (number-told k ∙ z)) in record {
      value = number-told k ∙ number_is e;
      answers_after = buffer_is e;
      res_after = after-told k;
    }

pub answer_readings-requires : goal.answer_readings-requires
answer_readings-requires c = let k = c.before.before.before.before.before in
    let zero = sym (number-told k) ∙ c.if-number-ne0.false in
    let enough = (both k).has_room zero in record {
      told = rw (after-told k) (key_told (job k) (readings k) (answers k) (before k) (both k) zero);
      readings_in_bounds = omega arith;
    }

pub returns : goal.returns
returns c = let k = c.before.before.before.before.before.before.before.before in
    let zero = sym (number-told k) ∙ c.if-number-ne0.false in
    let e = sym (key_answers (job k) (readings k) (answers k) (before k) (both k) zero) in record {
      value = number_is e;
      answers_after = c.answer_readings.ensures ∙ ap (λ (l : List ℕ). overlaid (answers_in l (readings k)) (answers k)) (after-told k) ∙ buffer_is e;
      res_after = after-told k;
    }
