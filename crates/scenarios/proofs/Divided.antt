-- A division has at most 129 entries.
use Prim.Native.Nat.{ℕ, ◌≤◌}
use native.Mathlib.Omega.{arith}
use lib.IntN.{ℤ}
use mathlib.Core.List.{List, []}
use mathlib.Core.Path.{refl}
use Rattle.lent.proofs.Standing.{counted}
use Rattle.quantities.specs.declared.Face.{Face}
use Rattle.quantities.specs.declared.Face.TheVariants.{Closed, Drained}
use Rattle.record_flows.proofs.LayerFaces.{faces_count}
use Rattle.record_flows.proofs.Moving.{done_taken}
use Rattle.record_flows.specs.Entries.{LongDivision}
use Rattle.rules.specs.declared.answers.Refusal.{Refusal}
use Rattle.std.specs.Prelude.{Result, Ok, Err}
use Rattle.rules.specs.Record.{face_number}
use Rattle.rules.specs.declared.record.Record.{Record}
use Rattle.scenarios.specs.Divisions.{entry_count}

at_most_one : (face : Face) → face_number face ≤ 1
unfolding face_number
at_most_one Closed = omega arith
at_most_one (Drained held) = omega arith

pub few : (r : Record) (t : ℕ) (answer : Result ℕ Refusal) {flows remainders : List ℤ} → LongDivision r t answer flows remainders → entry_count answer ≤ 129
few r t (Ok n) long =
    let entries = long n refl in
    let is = (done_taken r t entries.moves_just.taken).is in
    let frame = r.layer.frame in
    omega (arith, faces_count r is [] [], counted r is, at_most_one frame.top, at_most_one frame.bottom)
few r t (Err cause) long = omega arith
