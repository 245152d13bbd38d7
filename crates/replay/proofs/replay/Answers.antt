use Rattle.replay.proofs.Claim.{claimed}
use Rattle.replay.proofs.ReplayLaws.{replay_done, replay_not_done, ran_not_done, refused_not_done}
use Rattle.replay.proofs.replay.Goals as goal

pub returns-in-Done : goal.returns-in-Done
returns-in-Done c = let made = c.replay_calls in
    let done = c.in-Done.is in
    let (given, written) = replay_done c.args.job.now c.args.calls.now c.args.answers.now c.open-opened.result c.open-opened.ensures.value done made.result _ made.ensures.value made.ensures.answers_after in record {
      value = given;
      answers_after = written;
      claim = λ _. claimed c.args.job.now c.args.calls.now c.args.answers.now c.open-opened.result c.open-opened.ensures.value done made.result _ made.ensures.value made.ensures.answers_after;
    }

pub returns-in-Ran : goal.returns-in-Ran
returns-in-Ran c = let not = ran_not_done _ _ _ c.in-Ran.is in
    let (given, written) = replay_not_done c.args.job.now c.args.calls.now c.args.answers.now c.open-opened.result c.open-opened.ensures.value not in record {
      value = given;
      answers_after = written;
      claim = λ done. absurd (not done);
    }

pub returns-in-Refused : goal.returns-in-Refused
returns-in-Refused c = let not = refused_not_done _ _ c.in-Refused.is in
    let (given, written) = replay_not_done c.args.job.now c.args.calls.now c.args.answers.now c.open-opened.result c.open-opened.ensures.value not in record {
      value = given;
      answers_after = written;
      claim = λ done. absurd (not done);
    }
