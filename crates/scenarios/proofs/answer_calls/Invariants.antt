use Rattle.std.proofs.Common.{◌≡◌, length}
use Rattle.scenarios.proofs.answer_calls.Given as goal

abbrev pub invariant-loop-i : goal.invariant-loop-i
invariant-loop-i g l = length l.words ≡ 96
