use Prim.Native.Nat.{◌*◌}
use lib.IntN.{ℤ, pos, ◌*ℤ◌}
use lib.Dec.{lit≤}
use mathlib.Core.Path.{◌≡◌, refl}
use mir.Syntax.{w64}
use mir.Val.{SFits}
use Rattle.numbers.specs.Rounding.{cut}
use Rattle.numbers.proofs.Signed.{signed, read_back}
use Rattle.numbers.specs.Interval.{Within}
use Rattle.numbers.proofs.Interval.{within-mul, within_pos, within_le, within_quot, within_fits}
use Rattle.quantities.specs.Quantities.{level_limits, pressure_of}
use Rattle.quantities.proofs.Head.as_pressure.Goals as goal
use Rattle.quantities.proofs.Head.as_pressure.Lts as lts
use Rattle.quantities.proofs.Head.as_pressure.Reads as reads
use Rattle.quantities.proofs.Head.as_pressure.Tie as tie

module _ (c : lts.Start tie.the-claims reads.Pre reads.Post) where
  abbrev z : ℤ
  z = c.args.self.0

  head-fits : SFits w64 z
  head-fits = within_fits tt c.requires

  product : Within (z *ℤ pos 981) (level_limits.most * 981)
  product = within-mul c.requires (within_pos 981)

  product-fits : SFits w64 (z *ℤ pos 981)
  product-fits = within_fits tt product

  cut_fits : SFits w64 (cut (z *ℤ pos 981) 100_000)
  cut_fits = within_fits tt (within_quot (pos 100_000) product)

pub overflow_mul-self : goal.overflow_mul-self
overflow_mul-self c = simp (read_back (head-fits c.before.before)) (product-fits c.before.before)

pub cut-requires : goal.cut-requires
cut-requires c =
    let s = c.before.before in simp (read_back (head-fits s), read_back (product-fits s)) (omega signed, within_le (product s) (lit≤ tt))

pub returns : goal.returns
unfolding pressure_of
returns c =
    let s = c.before.before.before in
    let q : c.cut.result ≡ cut (z s *ℤ pos 981) 100_000 = simp (read_back (head-fits s), read_back (product-fits s)) at c.cut.ensures.quotient in
    rw (q, read_back (cut_fits s)) refl
