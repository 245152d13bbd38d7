use native.Mathlib.Omega.{arith}
use mathlib.Core.Bool.{true}
use mathlib.Core.Path.{◌≡◌, sym, ◌∙◌}
use Rattle.numbers.proofs.Signed.{signed, read_unsigned}
use Rattle.quantities.specs.Quantities.{within, level_limits}
use Rattle.quantities.proofs.Limits.{kept_small}
use Rattle.quantities.proofs.Head.new.Goals as goal

pub overflow_cast-result : goal.overflow_cast-result
overflow_cast-result c =
    let h = kept_small level_limits c.args.level (omega arith) (sym c.contains.ensures ∙ c.if-contains.true) in
    omega signed

pub returns-then-contains : goal.returns-then-contains
returns-then-contains c =
    let e : within level_limits c.args.level ≡ true = sym c.contains.ensures ∙ c.if-contains.true in
    rw (read_unsigned _ (kept_small level_limits _ (omega arith) e)) (rw e)
