use Prim.Native.Nat.{ℕ, ◌+◌, ◌<◌}
use mathlib.Core.List.{List}
use mathlib.Core.Path.{◌≡◌, ap, ◌∙◌}
use Rattle.curves.proofs.Segments.{interpolable}
use Rattle.std.specs.Prelude.{Some}
use Rattle.rules.specs.Curve.{Point, points, curve_at, segment_at, is_on, value_of}
use Rattle.working.proofs.SegmentReads.{on_is, segment_spans, segment_leaves, reading_is, reading_divides}
use Rattle.working.proofs.read_curve.Goals as goal
use Rattle.working.proofs.read_curve.Lts as lts
use Rattle.working.proofs.read_curve.Reads as reads
use Rattle.working.proofs.read_curve.Tie as tie

-- the segment that was found
module _ (f : lts.After-read_from_first tie.the-claims reads.Pre reads.Post tie.handed_clauses) where
  abbrev s : lts.Start tie.the-claims reads.Pre reads.Post tie.handed_clauses
  s = f.before

  abbrev curve : List Point
  curve = points s.args.count s.args.xs.now s.args.ys.now

  abbrev i : ℕ
  i = f.read_from_first-found.result.segment

  value-is : f.read_from_first-found.result.value ≡ curve_at curve s.args.x
  value-is = f.read_from_first-found.ensures.value_value.0

  stands : f.read_from_first-found.result.value ≡ Some (value_of f.read_from_first-found.result.value)
  stands = on_is _ (ap is_on value-is ∙ s.requires.x_value)

  inside : i + 1 < s.args.count
  inside = f.read_from_first-found.ensures.value_value.1

  found : i ≡ segment_at curve s.args.x
  found = f.read_from_first-found.ensures.by_index _ stands

pub interpolation_remainder-requires : goal.interpolation_remainder-requires
interpolation_remainder-requires c = let f = c.before.before.before.before.before.before.before.before in
    let p = s f in
    let (apart, (rises, near)) =
    interpolable p.args.count p.args.xs.now p.args.ys.now p.args.x (i f) p.requires.smooth (inside f)
    (segment_spans p.args.count p.args.xs.now p.args.ys.now p.args.x (i f) (inside f) (found f) p.requires.x_value) in record {
      x1_nonzero = apart;
      y0_le_y1 = rises;
    }

pub returns : goal.returns
returns c = let f = c.before.before.before.before.before.before.before.before.before in
    let p = s f in
    let value = c.value_of.ensures in
    let left = c.interpolation_remainder.ensures.leaves in record {
      value = reading_is (curve f) p.args.x (found f) (value ∙ ap value_of (value-is f))
          (left ∙ segment_leaves p.args.count p.args.xs.now p.args.ys.now p.args.x (i f) (inside f) (found f) p.requires.x_value);
      reading_divides = reading_divides p.args.xs.now p.args.ys.now p.args.x (i f) value (f.read_from_first-found.ensures.read_on _ (stands f)) left;
    }
