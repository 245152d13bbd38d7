use Rattle.replay.proofs.ReplayLaws.{Replays}
use Rattle.replay.proofs.replay_calls.Given as goal

abbrev pub invariant-loop-i : goal.invariant-loop-i
invariant-loop-i l = Replays l.initial.after l.calls l.initial.answers l.i l.after l.answers
