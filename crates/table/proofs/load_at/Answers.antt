use Prim.Native.Nat.{◌-◌}
use native.Mathlib.Omega.{arith}
use lib.ListN.{get_or}
use mathlib.Core.Path.{refl}
use Rattle.numbers.proofs.Signed.{signed, read_unsigned}
use Rattle.table.proofs.Laws.{tabled, load_last}
use Rattle.table.proofs.load_at.Goals as goal

pub loop-i-init : goal.loop-i-init
loop-i-init c = let k = tabled _ _ _ c.requires.load_value in (omega (arith, k.first_time (omega arith)), refl)

pub load_between-requires : goal.load_between-requires
load_between-requires c =
    let k = tabled _ _ _ c.requires.load_value in record {
      time0_le_clock = omega (arith, k.time_high c.loop-i.i (omega arith));
      load0_le_most = (k.load_high (c.loop-i.i - 1) (omega arith), k.load_high c.loop-i.i (omega arith));
    }

pub overflow_cast-result : goal.overflow_cast-result
overflow_cast-result c =
    let k = tabled _ _ _ c.requires.load_value in omega (signed, k.load_high (c.args.table_points - 1) (omega arith))

pub returns : goal.returns
returns c =
    let k = tabled _ _ _ c.requires.load_value in
    let high = k.load_high (c.args.table_points - 1) (omega arith) in
    let same = read_unsigned (get_or c.args.load.now (c.args.table_points - 1) 0) (omega arith) in record {
      value = rw same (grind (arith, load_last));
      pos_bound = rw same (omega signed, omega signed);
    }
