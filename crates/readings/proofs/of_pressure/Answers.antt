use borrow.Author.Rules.{rules}
use borrow.Author.Tests.{not-true, not-false}
use lib.Dec.{T, lit≤}
use lib.Ieee.{binary32, to_bits}
use mathlib.Core.Bool.{true}
use mathlib.Core.Path.{◌≡◌, sym, ◌∙◌, subst}
use Rattle.floats.specs.Binary32.{at_most}
use Rattle.numbers.proofs.Signed.{read_back}
use Rattle.readings.proofs.of_pressure.Goals as goal
use Rattle.readings.proofs.of_pressure.Lts as lts
use Rattle.readings.proofs.of_pressure.Reads as reads
use Rattle.readings.proofs.of_pressure.Tie as tie

-- past the test the float is at most the limit
accepted : (c : lts.Else1 tie.the-claims reads.Pre reads.Post) → at_most 2_000 (to_bits binary32 c.args.x) ≡ true
accepted c = sym c.at_most_2000.ensures ∙ c.if-not-at_most_2000.false

pub returns-then-not-at_most_2000 : goal.returns-then-not-at_most_2000
returns-then-not-at_most_2000 c = rw (sym c.at_most_2000.ensures ∙ c.if-not-at_most_2000.true)

pub in_units-millipascals-requires : goal.in_units-millipascals-requires
in_units-millipascals-requires c = (subst T (sym (accepted c)) tt, lit≤ tt)

pub returns : goal.returns
returns c = rw (read_back (record { sfits = c.in_units-millipascals.type_inv }), c.in_units-millipascals.ensures, accepted c.before)
