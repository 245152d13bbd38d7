use lib.Signed.{quot_z}
use mir.Syntax.{w64}
use mir.Val.{SFits}
use Rattle.numbers.proofs.Signed.{read_back}
use Rattle.numbers.proofs.Interval.{within_quot, within_fits}
use Rattle.numbers.proofs.Quotients.{is_cut}
use Rattle.numbers.proofs.cut.Goals as goal

pub returns : goal.returns
returns c =
    let fits : SFits w64 (quot_z c.args.z c.args.b) = within_fits tt (within_quot c.args.b c.requires.1) in
    simp (read_back c.ranges.z, read_back c.ranges.b, read_back fits) (is_cut c.args.z c.args.b c.requires.0)
