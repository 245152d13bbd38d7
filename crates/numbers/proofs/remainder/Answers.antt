use lib.Signed.{rem_z}
use mir.Syntax.{w64}
use mir.Val.{SFits}
use Rattle.numbers.proofs.Signed.{read_back}
use Rattle.numbers.proofs.Interval.{within_rem, within_fits}
use Rattle.numbers.proofs.Quotients.{is_left}
use Rattle.numbers.proofs.remainder.Goals as goal

pub returns : goal.returns
returns c =
    let fits : SFits w64 (rem_z c.args.z c.args.b) = within_fits tt (within_rem c.args.b c.requires.1) in
    simp (read_back c.ranges.z, read_back c.ranges.b, read_back fits) (is_left c.args.z c.args.b c.requires.0)
