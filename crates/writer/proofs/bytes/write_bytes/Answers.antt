use native.Mathlib.Omega.{arith}
use mathlib.Core.Path.{refl}
use Rattle.job.proofs.Counts.{counted}
use Rattle.writer.proofs.Stores.{job_stored}
use Rattle.writer.proofs.bytes.write_bytes.Goals as goal

pub write_header-requires : goal.write_header-requires
write_header-requires c = omega (arith, counted c.args.header _ c.requires.header_value.0 refl)

pub put_pairs-requires : goal.put_pairs-requires
put_pairs-requires c =
    let h = counted c.args.header _ c.requires.header_value.0 refl in
    (omega arith, omega arith, omega arith)

pub put_pairs-requires-2 : goal.put_pairs-requires-2
put_pairs-requires-2 c =
    let h = counted c.args.header _ c.requires.header_value.0 refl in
    (omega arith, omega arith, omega arith)

pub put_pairs-requires-3 : goal.put_pairs-requires-3
put_pairs-requires-3 c =
    let h = counted c.args.header _ c.requires.header_value.0 refl in
    (omega arith, omega arith, omega arith)

pub put_pairs-requires-4 : goal.put_pairs-requires-4
put_pairs-requires-4 c =
    let h = counted c.args.header _ c.requires.header_value.0 refl in
    (omega arith, omega arith, omega arith)

pub returns : goal.returns
returns c =
    job_stored _ c.args.out.now c.write_header.ensures c.put_pairs.ensures c.put_pairs-2.ensures c.put_pairs-3.ensures
    c.put_pairs-4.ensures c.requires.header_value.1
