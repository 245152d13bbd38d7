use borrow.Author.Rules.{rules}
use borrow.Author.Tests.{not-true, not-false}
use lib.Dec.{T, lit≤}
use lib.Ieee.{binary32, to_bits}
use mathlib.Core.Bool.{true}
use mathlib.Core.Path.{◌≡◌, sym, ◌∙◌, subst}
use Rattle.floats.specs.Binary32.{at_most}
use Rattle.floats.proofs.Bits.{at_most_le, units_within}
use Rattle.numbers.proofs.Signed.{read_back}
use Rattle.readings.proofs.of_column.Goals as goal
use Rattle.readings.proofs.of_column.Lts as lts
use Rattle.readings.proofs.of_column.Reads as reads
use Rattle.readings.proofs.of_column.Tie as tie

-- past the test the float is at most the limit
accepted : (c : lts.Else1 tie.the-claims reads.Pre reads.Post) → at_most 200 (to_bits binary32 c.args.x) ≡ true
accepted c = sym c.at_most_200.ensures ∙ c.if-not-at_most_200.false

pub returns-then-not-at_most_200 : goal.returns-then-not-at_most_200
returns-then-not-at_most_200 c = rw (sym c.at_most_200.ensures ∙ c.if-not-at_most_200.true)

pub in_units-nanometres-requires : goal.in_units-nanometres-requires
in_units-nanometres-requires c = (at_most_le 200 2_000 _ (lit≤ tt) (subst T (sym (accepted c)) tt), lit≤ tt)

-- a column of at most 200 m is a head between two levels
pub as_pressure-requires : goal.as_pressure-requires
as_pressure-requires c =
    rw (read_back (record { sfits = c.in_units-nanometres.type_inv }), c.in_units-nanometres.ensures)
    (units_within 200 1_000_000_000 _ (subst T (sym (accepted c.before)) tt))

pub returns : goal.returns
returns c =
    let p = c.as_pressure in
    let m = c.in_units-nanometres in
    rw (
      p.ensures,
      read_back {z = m.result} (record { sfits = m.type_inv }),
      m.ensures,
      accepted c.before.before,
    )
