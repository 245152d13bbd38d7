use borrow.Author.Tests.{eq-eqb, ne_eqb}
use Prim.Native.Nat.{ℕ}
use lib.Dec.{eqb}
use lib.IntN.{pos}
use mathlib.Core.Bool.{Bool, true, false, ◌||◌}
use mathlib.Core.Path.{◌≡◌, refl}
use Rattle.quantities.specs.declared.Face.TheVariants.{Closed, Drained}
use Rattle.quantities.specs.declared.Pressure.{Pressure}
use Rattle.rules.specs.Job.{numbered_face}
use Rattle.rules.specs.Start.{rests_over}
use Rattle.acceptance.proofs.starts.rests_over.Goals as goal

-- by the number of the bottom
rests-by : (number : ℕ) (held : Pressure) (top bottom : ℕ) →
    rests_over (numbered_face number held) (pos top) (pos bottom) ≡ (eqb number 0 || eqb bottom top)
unfolding rests_over numbered_face
rests-by number held top bottom = go (eqb number 0)
  where
    go : (closed : Bool) → rests_over (elim closed [ true ↦ Closed | false ↦ Drained held ]) (pos top) (pos bottom) ≡ (closed || eqb bottom top)
    go true = refl
    go false = refl

pub returns-then-header-eq0 : goal.returns-then-header-eq0
returns-then-header-eq0 c held =
    let h = c.args.header in
    rw (rests-by h.bottom held h.top_level h.bottom_level, eq-eqb h.bottom 0 c.if-header-eq0.true)

pub returns-else-header-eq0 : goal.returns-else-header-eq0
returns-else-header-eq0 c held =
    let h = c.args.header in
    rw (rests-by h.bottom held h.top_level h.bottom_level, ne_eqb h.bottom 0 c.if-header-eq0.false)
