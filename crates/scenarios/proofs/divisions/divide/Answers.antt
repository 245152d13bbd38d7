use native.Mathlib.Omega.{arith}
use Rattle.scenarios.proofs.Divided.{few}
use Rattle.scenarios.proofs.divisions.divide.Goals as goal

pub write_entries-requires : goal.write_entries-requires
write_entries-requires g c =
    omega (arith, c.entry_count-count.ensures, few c.args.record c.args.t c.divide-divided.result c.divide-divided.ensures.long_division)
