use Prim.Native.Nat.{◌≤◌}
use mathlib.Core.Bool.{true}
use mathlib.Core.Path.{◌≡◌, sym, ap, ◌∙◌}
use Rattle.numbers.proofs.Searches.{passed}
use Rattle.quantities.proofs.Limits.{within_parts, tested_some, tested_none}
use Rattle.quantities.specs.Quantities.{within, within_ℤ, stress_limits, clock_limits}
use Rattle.quantities.specs.declared.Clock.{Clock}
use Rattle.rules.specs.declared.record.Progress.{Progress}
use Rattle.layer_test.proofs.progress_sound.Goals as goal
use Rattle.layer_test.proofs.progress_sound.Lts as lts
use Rattle.layer_test.proofs.progress_sound.Reads as reads
use Rattle.layer_test.proofs.progress_sound.Tie as tie

pub returns-then-not-is_stress : goal.returns-then-not-is_stress
returns-then-not-is_stress c = rw (sym c.is_stress.ensures ∙ c.if-not-is_stress.true)

abbrev p : lts.After-new tie.the-claims reads.Pre reads.Post → Progress
p c = c.args.progress

-- the load is a stress
load-true : (c : lts.After-new tie.the-claims reads.Pre reads.Post) → within_ℤ stress_limits (p c).load.0 ≡ true
load-true c = sym c.is_stress.ensures ∙ c.if-not-is_stress.false

pub returns-in_default : goal.returns-in_default
returns-in_default c =
    let n = c.before in
    rw (load-true n, tested_none _ _ _ (sym c.in_default.is ∙ n.new.ensures))

-- the clock keeps its limits
module _ (c : lts.Past-After-known_told tie.the-claims reads.Pre reads.Post) where
  abbrev n : lts.After-new tie.the-claims reads.Pre reads.Post
  n = c.before

  abbrev now : Clock
  now = c.in-Some.now

  told : (within clock_limits (p n).clock.0 ≡ true) × (now ≡ record { 0 = (p n).clock.0 })
  told = tested_some _ _ _ (sym c.in-Some.is ∙ n.new.ensures)

  now-is : now.0 ≡ (p n).clock.0
  now-is = ap (λ (k : Clock). k.0) told.1

  now-most : now.0 ≤ clock_limits.most
  now-most = rw now-is (within_parts clock_limits (p n).clock.0 (passed told.0)).1

pub within-requires-2 : goal.within-requires-2
within-requires-2 c = now-most c.before

pub within-requires-3 : goal.within-requires-3
within-requires-3 c = now-most c.before.before

pub returns : goal.returns
returns c =
    let t = c.before.before.before in
    rw (load-true (n t), (told t).0, c.within.ensures, c.within-2.ensures, c.within-3.ensures, now-is t)
