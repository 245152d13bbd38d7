use native.Mathlib.Omega.{arith}
use mathlib.Core.Path.{sym, ◌∙◌}
use Rattle.curves.proofs.Segments.{interpolable, read_any, named}
use Rattle.curves.proofs.reading.read.Goals as goal

pub interpolated-requires : goal.interpolated-requires
interpolated-requires c = let t = interpolable _ _ _ c.args.x c.args.hint c.requires.smooth (omega arith) (sym (c.spans.ensures _ _) ∙ c.if-spans.true) in record {
  x1_nonzero = t.0;
  y0_le_y1 = t.1.0;
  x_bound = t.1.1;
}

pub returns-then-spans : goal.returns-then-spans
returns-then-spans c = let on = sym (c.spans.ensures _ _) ∙ c.if-spans.true in
    let is = c.interpolated.ensures in record {
      value_value = (read_any _ _ _ c.args.x c.args.hint c.requires.smooth (omega arith) on is.value, omega arith);
      read_on = named c.args.count c.args.xs.now c.args.ys.now c.args.x c.args.hint is;
    }
