use native.Mathlib.Omega.{arith}
use lib.ListN.{length}
use mathlib.Core.Path.{◌≡◌, sym, ap, ◌∙◌}
use Rattle.consolidate.proofs.Program.{whole, elements_few, room_is, result_written, refusal_written}
use Rattle.key.proofs.KeyLaws.{key_most, key_numbers}
use Rattle.rules.specs.Job.{described}
use Rattle.rules.specs.Key.{key}
use Rattle.rules.specs.Result.{result_size}
use borrow.Author.Rules.{rules}
use Rattle.consolidate.proofs.answer.Goals as goal

pub refused_line-requires : goal.refused_line-requires
unfolding result_size
refused_line-requires c =
    let room = room_is c.requires.1 in
    let kept : length c.consolidation_key-number.new.res ≡ length c.args.out.now = search rules in
    (rw c.consolidation_key-number.ensures.value (omega (arith, key_most _ (key_numbers c.args.job.now c.args.out.now))), omega (arith, room, kept))

pub returns-then-number-ne0 : goal.returns-then-number-ne0
returns-then-number-ne0 c =
    let told = c.consolidation_key-number.ensures in
    refusal_written c.args.job.now c.args.out.now c.requires.0 c.requires.1 _ _ told.value told.res_after _ _ c.if-number-ne0.true c.refused_line.ensures

pub byte-requires : goal.byte-requires
byte-requires c =
    let long = whole _ _ (sym c.consolidation_key-number.ensures.value ∙ c.if-number-ne0.false) in
    omega (arith, long)

pub result_size-requires : goal.result_size-requires
unfolding described
result_size-requires c =
    rw c.byte.ensures (elements_few c.args.job.now _ (sym c.consolidation_key-number.ensures.value ∙ c.if-number-ne0.false))

pub returns : goal.returns
unfolding described
returns c =
    let told = c.consolidation_key-number.ensures in
    let kept : length c.consolidation_key-number.new.res ≡ length c.args.out.now = search rules in
    result_written c.args.job.now c.args.out.now c.requires.0 c.requires.1 _ _ told.value told.res_after _ c.if-number-ne0.false
    (c.result_size.ensures ∙ ap result_size c.byte.ensures) kept
