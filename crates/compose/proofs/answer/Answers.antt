use Rattle.std.specs.Prelude.{◌≡◌, length}
use native.Mathlib.Omega.{arith}
use Rattle.compose.proofs.Composing.{job_composed, refusal_composed}
use Rattle.compose.specs.Composed.{job_most}
use Rattle.numbers.proofs.Filled.{length-zeros}
use mathlib.Core.Path.{ap, ◌∙◌}
use borrow.Author.Rules.{rules}
use Rattle.compose.proofs.answer.Goals as goal

pub refused_line-requires : goal.refused_line-requires
refused_line-requires c =
    let kept : length c.write_words-number.new.job ≡ length c.args.out.now = search rules in
    let room = kept ∙ ap length c.requires ∙ length-zeros job_most in
    (omega arith, omega arith)

pub returns-then-number : goal.returns-then-number
returns-then-number c =
    let written = c.write_words-number.ensures in
    refusal_composed c.args.input.now c.args.out.now _ _ _ c.requires c.read_words.ensures written.value written.job_after _ _ c.if-number.true
    c.refused_line.ensures

pub returns : goal.returns
returns c =
    let written = c.write_words-number.ensures in
    let kept : length c.write_words-number.new.job ≡ length c.args.out.now = search rules in
    job_composed c.args.input.now c.args.out.now _ _ _ c.requires c.read_words.ensures written.value written.job_after kept c.if-number.false
