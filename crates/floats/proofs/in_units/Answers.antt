use native.Mathlib.Omega.{arith}
use borrow.Author.Rules.{rules}
use lib.Dec.{T}
use lib.Ieee.{binary32, fits}
use mathlib.Core.Path.{sym, subst}
use Rattle.floats.proofs.Bits.{no_nan, accepted-field}
use Rattle.floats.proofs.in_units.Goals as goal
use Rattle.floats.proofs.in_units.Lts as lts
use Rattle.floats.proofs.in_units.Reads as reads
use Rattle.floats.proofs.in_units.Tie as tie

-- the format holds an f32
held : (s : lts.Start tie.the-claims reads.Pre reads.Post) → T (fits binary32 s.args.x)
held s = subst T (sym s.well_formed.0.1) tt

pub float_to_bits-x : goal.float_to_bits-x
float_to_bits-x c = no_nan 2_000 c.args.x (held c) c.requires.0

pub bits_in_units-requires : goal.bits_in_units-requires
bits_in_units-requires c = let negative = accepted-field _ c.requires.0 in (omega arith, c.requires.1)
