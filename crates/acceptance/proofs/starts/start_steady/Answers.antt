use borrow.Author.Tests.{eq-eqb, ne_eqb}
use mathlib.Core.Path.{refl, ◌∙◌}
use Rattle.acceptance.proofs.starts.start_steady.Goals as goal

pub returns-then-header-ne-STEADY : goal.returns-then-header-ne-STEADY
returns-then-header-ne-STEADY c = rw (ne_eqb c.args.header.start 2 c.if-header-ne-STEADY.true) refl

pub is_steady-requires : goal.is_steady-requires
is_steady-requires c = record {
  r_value = rw c.curve_counts.ensures c.requires.r_value;
  by_index = c.requires.by_index;
}

pub returns : goal.returns
returns c =
    c.is_steady.ensures ∙ rw (c.curve_counts.ensures, eq-eqb c.args.header.start 2 c.if-header-ne-STEADY.false) refl
