use lib.IntN.{pos, ◌*ℤ◌}
use Rattle.element.proofs.Machine.{difference_read}
use Rattle.element.specs.Elements.{OutwardCut}
use Rattle.laws.specs.Faces.{Holds}
use Rattle.numbers.specs.Quotients.{Cut}
use Rattle.numbers.proofs.Signed.{read_back}
use Rattle.rules.specs.Step.{outward}
use Rattle.element.proofs.outward.Goals as goal

pub returns-in-Drained : goal.returns-in-Drained
unfolding outward OutwardCut Holds
returns-in-Drained c =
    let is = difference_read (λ z. Cut (z *ℤ pos c.args.t) c.args.resistance c.flow.result) c.flow.ensures c.requires.within (rw c.in-Drained.is at c.requires.held_within) in
    let back = read_back {z = c.flow.result} (record { sfits = c.flow.type_inv }) in record {
      value = rw (c.in-Drained.is, back) is.quotient;
      outward_cut = rw (c.in-Drained.is, back) is;
    }
