use native.Mathlib.Omega.{arith}
use lib.IntN.{ℤ, pos, ◌*ℤ◌}
use lib.ListN.{length-set}
use mathlib.Core.Path.{◌≡◌, ap, ◌∙◌}
use mir.Syntax.{w64}
use mir.Val.{of_z, to_z}
use Rattle.numbers.proofs.Interval.{within_fits}
use Rattle.numbers.proofs.Signed.{read_back}
use Rattle.numbers.specs.Rounding.{cut, remainder}
use Rattle.rules.specs.Division.{flow_at, remainder_at}
use Rattle.working.proofs.Storing.{face_stored}
use Rattle.working.proofs.put_face.Goals as goal
use Rattle.working.proofs.put_face.Lts as lts
use Rattle.working.proofs.put_face.Reads as reads
use Rattle.working.proofs.put_face.Tie as tie

pub bounds-out-at-2 : goal.bounds-out-at-2
bounds-out-at-2 c = simp length-set (omega arith)

pub bounds-out-at-3 : goal.bounds-out-at-3
bounds-out-at-3 c = simp length-set (omega arith)

pub bounds-out-at-4 : goal.bounds-out-at-4
bounds-out-at-4 c = simp length-set (omega arith)

difference-back : (s : lts.Start tie.the-claims reads.Pre reads.Post tie.handed_clauses) → to_z w64 (of_z w64 s.args.face.difference) ≡ s.args.face.difference
difference-back s = read_back (within_fits tt s.requires.within)

module _ (c : lts.After-signed_field3 tie.the-claims reads.Pre reads.Post tie.handed_clauses) where
  abbrev left : lts.After-flow_remainder tie.the-claims reads.Pre reads.Post tie.handed_clauses
  left = c.before.before.before.before

  abbrev flow : lts.After-flow tie.the-claims reads.Pre reads.Post tie.handed_clauses
  flow = left.before.before

  abbrev start : lts.Start tie.the-claims reads.Pre reads.Post tie.handed_clauses
  start = flow.before.before.before

  flow_is : to_z w64 (of_z w64 flow.flow-flow.result) ≡ flow_at start.args.t start.args.face
  flow_is =
      read_back {z = flow.flow-flow.result} (record { sfits = flow.flow-flow.type_inv }) ∙ flow.flow-flow.ensures.quotient ∙
      ap (λ (z : ℤ). cut (z *ℤ pos start.args.t) start.args.face.resistance) (difference-back start)

  left_is : to_z w64 (of_z w64 left.flow_remainder-left.result) ≡ remainder_at start.args.t start.args.face
  left_is =
      read_back {z = left.flow_remainder-left.result} (record { sfits = left.flow_remainder-left.type_inv }) ∙ left.flow_remainder-left.ensures.remainder_is ∙
      ap (λ (z : ℤ). remainder (z *ℤ pos start.args.t) start.args.face.resistance) (difference-back start)

pub returns : goal.returns
returns c =
    let s = c.before.before.before.before.before.before.before.before.before in
    face_stored s.args.t s.args.face s.args.out.now s.args.at c.signed_field.ensures
    c.signed_field-2.ensures c.signed_field-3.ensures (difference-back s) (flow_is c) (left_is c)
