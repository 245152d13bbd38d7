use lib.ListN.{replicate}
use lib.Seq.{length-take-le}
use mathlib.Core.Path.{refl, sym, ◌∙◌}
use native.Mathlib.Omega.{arith}
use borrow.Author.Rules.{rules}
use Rattle.std.specs.Prelude.{◌≡◌, length}
use Rattle.answers.proofs.RefusedLine.{written_fits}
use Rattle.long_division.proofs.Writing.{words_told, refusal_told, bytes_written, line_written}
use Rattle.long_division.specs.DivisionOutput.{worked_output}
use Rattle.working.specs.Working.{working_words}
use Rattle.long_division.proofs.answer_record.Goals as goal

-- What the working promises of a step that is made is `told`: its words stand in the array's front.
pub slice_bounds-words-end : goal.slice_bounds-words-end
slice_bounds-words-end c =
    let made = c.work_out-worked.ensures in
    let told = words_told c.args.r c.args.t (replicate 1_670 0) (sym c.in-Ok.is ∙ made.value) made.out_after in
    written_fits _ _ _ _ told.0

pub slice_bounds-put_words-end : goal.slice_bounds-put_words-end
slice_bounds-put_words-end c =
    let made = c.work_out-worked.ensures in
    let told = words_told c.args.r c.args.t (replicate 1_670 0) (sym c.in-Ok.is ∙ made.value) made.out_after in
    sym (length-take-le _ _ (written_fits _ _ _ _ told.0))

pub overflow_mul-result : goal.overflow_mul-result
overflow_mul-result c =
    let made = c.work_out-worked.ensures in
    let told = words_told c.args.r c.args.t (replicate 1_670 0) (sym c.in-Ok.is ∙ made.value) made.out_after in
    let fits = written_fits _ _ _ _ told.0 in
    let kept : length c.work_out-worked.new.out ≡ 1_670 = search rules in
    omega (arith, fits, kept)

pub returns-in-Ok : goal.returns-in-Ok
returns-in-Ok c =
    let made = c.work_out-worked.ensures in
    let told = words_told c.args.r c.args.t (replicate 1_670 0) (sym c.in-Ok.is ∙ made.value) made.out_after in
    bytes_written (working_words c.args.r c.args.t) (worked_output c.args.r c.args.t) (replicate 1_670 0) c.work_out-worked.new.out c.args.out.now _
    c.in-Ok.count _ told.0 told.1 c.put_words.ensures refl

pub returns-in-Err : goal.returns-in-Err
returns-in-Err c =
    line_written (worked_output c.args.r c.args.t) _ c.args.out.now _ _
    (refusal_told c.args.r c.args.t (replicate 1_670 0) _ (sym c.in-Err.is ∙ c.work_out-worked.ensures.value)) c.refuse.ensures
