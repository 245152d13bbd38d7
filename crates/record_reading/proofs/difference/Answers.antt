use lib.IntN.{◌-ℤ◌}
use mir.Syntax.{w64}
use mir.Val.{SFits}
use Rattle.numbers.proofs.Interval.{within_fits, within-sub}
use Rattle.numbers.proofs.Signed.{read_back}
use Rattle.record_reading.proofs.difference.Goals as goal
use Rattle.record_reading.proofs.difference.Lts as lts
use Rattle.record_reading.proofs.difference.Reads as reads
use Rattle.record_reading.proofs.difference.Tie as tie

module _ (s : lts.Start reads.Pre reads.Post tie.handed_clauses) where
  pressure-fits : SFits w64 s.args.pressure.0
  pressure-fits = within_fits tt s.requires.within

  pore-fits : SFits w64 s.args.pore.0
  pore-fits = within_fits tt s.requires.within_2

  less-fits : SFits w64 (s.args.pressure.0 -ℤ s.args.pore.0)
  less-fits = within_fits tt (within-sub s.requires.within s.requires.within_2)

pub overflow_sub-result : goal.overflow_sub-result
overflow_sub-result c = let s = c.before.before.before.before in simp (read_back (pressure-fits s), read_back (pore-fits s)) (less-fits s)

pub returns : goal.returns
returns c = let s = c.before.before.before.before in simp (read_back (pressure-fits s), read_back (pore-fits s), read_back (less-fits s))
