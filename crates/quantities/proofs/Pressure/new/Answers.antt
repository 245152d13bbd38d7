use native.Mathlib.Omega.{arith}
use mathlib.Core.Bool.{true}
use mathlib.Core.Path.{◌≡◌, sym, ◌∙◌}
use Rattle.numbers.proofs.Signed.{signed, read_unsigned}
use Rattle.quantities.specs.Quantities.{within, stress_limits}
use Rattle.quantities.proofs.Limits.{kept_small}
use Rattle.quantities.proofs.Pressure.new.Goals as goal

pub overflow_cast-result : goal.overflow_cast-result
overflow_cast-result c =
    let h = kept_small stress_limits c.args.stress (omega arith) (sym c.contains.ensures ∙ c.if-contains.true) in
    omega signed

pub returns-then-contains : goal.returns-then-contains
returns-then-contains c =
    let e : within stress_limits c.args.stress ≡ true = sym c.contains.ensures ∙ c.if-contains.true in
    rw (read_unsigned _ (kept_small stress_limits _ (omega arith) e)) (rw e)
