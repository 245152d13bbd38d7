use Prim.Native.Nat.{◌≤◌}
use lib.ListN.{length}
use mathlib.Core.Bool.{false}
use mathlib.Core.Path.{◌≡◌, sym, ◌∙◌}
use Rattle.rules.specs.Job.{header_length}
use Rattle.job.proofs.FramingLaws.{is_short, is_other, is_outside, is_wrong, by_tests, chosen, long, kept}
use Rattle.job.proofs.framing.frame.Goals as goal
use Rattle.job.proofs.framing.frame.Lts as lts
use Rattle.job.proofs.framing.frame.Reads as reads
use Rattle.job.proofs.framing.frame.Tie as tie

pub returns-then-short_or_unmarked : goal.returns-then-short_or_unmarked
unfolding chosen
returns-then-short_or_unmarked c = rw (by_tests, ← c.short_or_unmarked.ensures, c.if-short_or_unmarked.true)

-- what the tests passed say
not_short : (c : lts.Else1 tie.the-claims reads.Pre reads.Post) → is_short c.args.job.now ≡ false
not_short c = sym c.short_or_unmarked.ensures ∙ c.if-short_or_unmarked.false

there : (c : lts.Else1 tie.the-claims reads.Pre reads.Post) → header_length ≤ length c.args.job.now
there c = long c.args.job.now (not_short c)

not-other : (c : lts.Else2 tie.the-claims reads.Pre reads.Post) → is_other c.args.job.now ≡ false
not-other c = sym c.other_version.ensures ∙ c.if-other_version.false

pub other_version-requires : goal.other_version-requires
other_version-requires c = there c.before

pub returns-then-other_version : goal.returns-then-other_version
unfolding chosen
returns-then-other_version c =
    rw (by_tests, not_short c.before.before.before, ← c.other_version.ensures, c.if-other_version.true)

pub read_header-header-requires : goal.read_header-header-requires
read_header-header-requires c = there c.before.before.before

pub header_outside-requires : goal.header_outside-requires
header_outside-requires c = there c.before.before.before.before

tested : (c : lts.After-header_outside tie.the-claims reads.Pre reads.Post) → c.header_outside.result ≡ is_outside c.args.job.now
tested c = rw c.read_header-header.ensures at c.header_outside.ensures

not_outside : (c : lts.Else3 tie.the-claims reads.Pre reads.Post) → is_outside c.args.job.now ≡ false
not_outside c = sym (tested c.before) ∙ c.if-header_outside.false

pub returns-then-header_outside : goal.returns-then-header_outside
unfolding chosen
returns-then-header_outside c =
    let passed2 = c.before.before.before.before in
    rw (by_tests, not_short passed2.before.before, not-other passed2, ← tested c.before.before, c.if-header_outside.true)

pub wrong_length-requires : goal.wrong_length-requires
wrong_length-requires c =
    rw c.read_header-header.ensures (kept c.args.job.now (not_outside c.before))

right : (c : lts.After-wrong_length tie.the-claims reads.Pre reads.Post) → c.wrong_length.result ≡ is_wrong c.args.job.now
right c = rw c.read_header-header.ensures at c.wrong_length.ensures

pub returns-then-wrong_length : goal.returns-then-wrong_length
unfolding chosen
returns-then-wrong_length c =
    let passed3 = c.before.before.before in
    let passed2 = passed3.before.before.before in
    rw (by_tests, not_short passed2.before.before, not-other passed2, not_outside passed3, ← right c.before.before, c.if-wrong_length.true)

pub returns : goal.returns
unfolding chosen
returns c =
    let passed3 = c.before.before.before in
    let passed2 = passed3.before.before.before in
    rw (by_tests, not_short passed2.before.before, not-other passed2, not_outside passed3, ← right c.before.before, c.if-wrong_length.false, c.read_header-header.ensures)
