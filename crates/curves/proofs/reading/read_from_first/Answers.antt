use native.Mathlib.Nat.{zero-add}
use mathlib.Core.Path.{refl, sym, ◌∙◌}
use Rattle.curves.proofs.Segments.{interpolable, read_here, read_on, read_end, found_here, found_on, named, not_on}
use native.Mathlib.Omega.{arith}
use Rattle.curves.proofs.reading.read_from_first.Goals as goal

pub loop-i-init : goal.loop-i-init
loop-i-init c = (refl, sym (zero-add _))

pub interpolated-requires : goal.interpolated-requires
interpolated-requires c = let t = interpolable _ _ _ c.args.x c.loop-i.i c.requires.smooth (omega arith) (sym (c.spans.ensures _ _) ∙ c.if-spans.true) in record {
  x1_nonzero = t.0;
  y0_le_y1 = t.1.0;
  x_bound = t.1.1;
}

pub returns-then-spans : goal.returns-then-spans
returns-then-spans c = let on = sym (c.spans.ensures _ _) ∙ c.if-spans.true in
    let is = c.interpolated.ensures in record {
      value_value = (read_here _ _ _ c.args.x c.loop-i.i (omega arith) on is.value ∙ c.loop-i.invariant.0, omega arith);
      read_on = named c.args.count c.args.xs.now c.args.ys.now c.args.x c.loop-i.i is;
      by_index = λ _ _. found_here _ _ _ c.args.x c.loop-i.i (omega arith) on c.loop-i.invariant.1;
    }

pub loop-i-preserved : goal.loop-i-preserved
loop-i-preserved c =
    let off = sym (c.spans.ensures _ _) ∙ c.if-spans.false in (
      sym (read_on _ _ _ c.args.x c.loop-i.i (omega arith) off) ∙ c.loop-i.invariant.0,
      found_on _ _ _ c.args.x c.loop-i.i (omega arith) off c.loop-i.invariant.1,
    )

pub returns : goal.returns
returns c = record {
  value_value = (sym (read_end _ _ _ c.args.x c.loop-i.i (omega arith)) ∙ c.loop-i.invariant.0, omega arith);
  read_on = λ y e. not_on y e;
  by_index = λ y e. not_on y e;
}
