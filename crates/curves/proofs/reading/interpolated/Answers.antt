use Prim.Native.Nat.{ℕ, ◌+◌, ◌-◌, ◌*◌, ◌<◌}
use native.Mathlib.Omega.{arith}
use mathlib.Core.Path.{◌≡◌}
use Rattle.laws.specs.Segment.{OnSegment}
use Rattle.laws.proofs.Interpolating.{segment_divides}
use Rattle.numbers.specs.Interpolation.{distance, share}
use Rattle.numbers.specs.Quotients.{Floored}
use Rattle.rules.specs.Curve.{Point, point, interpolated}
use Rattle.curves.proofs.reading.interpolated.Goals as goal

on_segment : (a b : Point) (x part whole : ℕ) {q : ℕ} → Floored ((b.ordinate - a.ordinate) * part) whole q →
    part ≡ distance a.abscissa x → whole ≡ distance a.abscissa b.abscissa → 0 < whole → OnSegment a b x (a.ordinate + q)
unfolding interpolated share
on_segment a b x part whole f p w h = rw (f.quotient, p, w) (segment_divides a b x (rw w at h))

pub returns : goal.returns
returns c =
    on_segment (point c.args.x0 c.args.y0) (point c.args.x1 c.args.y1) c.args.x _ _ c.share.ensures (omega arith) (omega arith) (omega arith)
