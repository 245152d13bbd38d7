use native.Mathlib.Omega.{arith}
use lib.ListN.{length}
use Rattle.replay.proofs.ReplayLaws.{replays_none, replays_more, replays_all}
use Rattle.replay.proofs.WordLaws.{counted_words}
use Rattle.replay.proofs.replay_calls.Goals as goal

pub loop-i-init : goal.loop-i-init
loop-i-init c = replays_none _ _ _

pub loop-i-preserved : goal.loop-i-preserved
loop-i-preserved c =
    let l = c.loop-i in
    let made = c.replay_call-after.ensures in
    let (held, room) = counted_words (length c.args.calls.now) (length c.args.answers.now) l.i (omega arith) in
    replays_more c.args.layer c.args.calls.now c.args.answers.now l.i l.after l.answers l.invariant room _ _ made.value made.answers_after

pub returns : goal.returns
returns c =
    let l = c.loop-i in
    let (value, answers) = replays_all c.args.layer c.args.calls.now c.args.answers.now l.i l.after l.answers l.invariant (omega arith) in record {
      value = value;
      answers_after = answers;
    }
