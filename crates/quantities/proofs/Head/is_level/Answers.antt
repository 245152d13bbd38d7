use mir.Syntax.{w64}
use mir.Val.{SFits}
use Rattle.numbers.proofs.Signed.{read_back}
use Rattle.quantities.proofs.Head.is_level.Goals as goal
use Rattle.quantities.proofs.Head.is_level.Lts as lts
use Rattle.quantities.proofs.Head.is_level.Reads as reads
use Rattle.quantities.proofs.Head.is_level.Tie as tie

fits : (c : lts.After-struct_told tie.the-claims reads.Pre reads.Post) → SFits w64 c.args.self.0
fits c = record { sfits = c.struct_told-1.given.0.1 }

pub returns : goal.returns
returns c = simp (read_back (fits c.before)) at c.contains_signed.ensures
