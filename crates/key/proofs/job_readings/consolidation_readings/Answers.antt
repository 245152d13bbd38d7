use lib.Dec.{ltb}
use lib.ListN.{length}
use Prim.Native.Nat.{◌/◌, ◌≤◌}
use lib.Seq.{length-take-le}
use mathlib.Core.Path.{sym, ◌∙◌}
use Rattle.key.proofs.ReadingLaws.{room_most}
use Rattle.key.proofs.job_readings.consolidation_readings.Goals as goal
use Rattle.key.proofs.job_readings.consolidation_readings.Lts as lts
use Rattle.key.proofs.job_readings.consolidation_readings.Reads as reads
use Rattle.key.proofs.job_readings.consolidation_readings.Tie as tie

few : (c : lts.After-result_room tie.the-claims reads.Pre reads.Post tie.handed_clauses) → c.result_room-room.result ≤ 5_176
few c = let a = c.args in rw c.result_room-room.ensures (room_most (ltb (length a.answers.now / 5) (length a.readings.now / 3)))

pub slice_bounds-result-end : goal.slice_bounds-result-end
slice_bounds-result-end c = few c.before

pub slice_bounds-answer_by_key-end : goal.slice_bounds-answer_by_key-end
slice_bounds-answer_by_key-end c = sym (length-take-le _ _ (few c.before.before))

pub answer_by_key-requires : goal.answer_by_key-requires
answer_by_key-requires c = length-take-le _ _ (few c.before.before.before) ∙ c.result_room-room.ensures
