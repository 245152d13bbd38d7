-- The pore pressure that a reading is compared with is the one that the key says of the element.
use Prim.Native.Nat.{ℕ, zero, suc, ◌+◌, ◌*◌, ◌≤◌, ◌<◌}
use native.Mathlib.Nat.{zero-add}
use native.Mathlib.Omega.{arith}
use lib.Dec.{lit≤}
use lib.IntN.{ℤ}
use lib.ListN.{length, take, drop, get_or}
use mathlib.Core.List.{List, [], ◌∷◌, ◌++◌}
use mathlib.Core.Path.{◌≡◌, refl, ◌∙◌}
use Rattle.key.proofs.KeyLaws.{key_run, room_enough}
use Rattle.key.proofs.Layers.{ended_elements}
use Rattle.laws.proofs.Lengths.{burdens-length}
use Rattle.numbers.proofs.Filled.{first_length}
use Rattle.numbers.proofs.LittleEndian.{part_front, part_past}
use Rattle.numbers.specs.Arrays.{first_places, overlaid}
use Rattle.numbers.specs.Integers.{up}
use Rattle.pore.specs.Pore.{element_pore}
use Rattle.result.proofs.ResultLaws.{result-length}
use Rattle.result_elements.proofs.Elements.{element-length}
use Rattle.result_head.proofs.HeadLaws.{length-head}
use Rattle.rules.specs.Calls.{ended_run}
use Rattle.rules.specs.Job.{described}
use Rattle.rules.specs.Key.{key}
use Rattle.rules.specs.Layer.{Skeleton, height, skeleton, burdens}
use Rattle.rules.specs.Opening.{opening}
use Rattle.rules.specs.Record.{record_site, record_state}
use Rattle.rules.specs.Result.{signed_word, pore_pressure, element_bytes, heights_below, elements_bytes, settlement, result_head, result_bytes, result_size}
use Rattle.rules.specs.declared.answers.Answer.TheVariants.{Done}
use Rattle.rules.specs.declared.answers.Stop.{Stop}
use Rattle.rules.specs.declared.record.Record.{Record}

-- so many bytes from an offset
abbrev part : (size offset : ℕ) → List ℕ → List ℕ
part size offset bytes = take size (drop offset bytes)

module _ (soil : Skeleton) (level load : ℤ) where
  -- a part of the element at j
  element_part : (below : ℕ) (Bs Ss Ws : List ℕ) (size offset j : ℕ) → offset + size ≤ 40 → j < length Bs → length Ss ≡ length Bs →
      length Ws ≡ length Bs → part size (40 * j + offset) (elements_bytes soil level load below Bs Ss Ws) ≡
      part size offset (element_bytes soil level load (get_or (heights_below below Ss Ws) j 0) (get_or Bs j 0) (get_or Ss j 0) (get_or Ws j 0))
  unfolding elements_bytes heights_below
  element_part below [] Ss Ws size offset j fits h k l = absurd (omega arith)
  element_part below (B ∷ Bs) [] Ws size offset j fits h k l = absurd (omega arith)
  element_part below (B ∷ Bs) (S ∷ Ss) [] size offset j fits h k l = absurd (omega arith)
  element_part below (B ∷ Bs) (S ∷ Ss) (W ∷ Ws) size offset zero fits h k l =
      let first = element_bytes soil level load below B S W in
      rw (zero-add offset)
      (part_front size offset first (elements_bytes soil level load (below + height S W) Bs Ss Ws)
      (omega (arith, element-length soil level load below B S W)))
  element_part below (B ∷ Bs) (S ∷ Ss) (W ∷ Ws) size offset (suc j) fits h k l =
      let first = element_bytes soil level load below B S W in
      let rest = elements_bytes soil level load (below + height S W) Bs Ss Ws in
      let place : 40 * suc j + offset ≡ length first + (40 * j + offset) = omega (arith, element-length soil level load below B S W) in
      rw place
      (part_past size (40 * j + offset) first rest ∙
      element_part (below + height S W) Bs Ss Ws size offset j fits (omega arith) (omega arith) (omega arith))

  -- its last eight bytes
  pore_part : (below B S W : ℕ) → part 8 32 (element_bytes soil level load below B S W) ≡ signed_word (pore_pressure soil level load below B S W)
  unfolding element_bytes
  pore_part below B S W = refl

head-length : (r : Record) (stop : Stop) (steps : ℕ) → length (result_head r stop steps) ≡ 56
unfolding result_head record_state
head-length r stop steps =
    let p = r.layer.progress in
    length-head stop r.layer.frame.elements p.clock.0 steps (up p.load.0) p.top_outflow.0 p.bottom_outflow.0 (settlement r)

after_head : (size offset : ℕ) (head rest : List ℕ) → length head ≡ 56 → part size (56 + offset) (head ++ rest) ≡ part size offset rest
after_head size offset head rest h = rw (← h) (part_past size offset head rest)

-- the pore pressure of the element at an index stands in the result at its place
pub pore_in-result : (r : Record) (stop : Stop) (steps index : ℕ) → index < r.layer.frame.elements →
    take 8 (drop (56 + (40 * index + 32)) (result_bytes r stop steps)) ≡ signed_word (element_pore r index)
unfolding result_bytes record_site record_state element_pore
pore_in-result r stop steps index h =
    let n = r.layer.frame.elements in
    let Ss = first_places n r.layer.solids in
    let Ws = first_places n r.layer.water in
    let Bs = burdens r.layer.frame.gravity Ss in
    let soil = skeleton (record_site r) in
    let level = r.layer.frame.top_level.0 in
    let load = r.layer.progress.load.0 in
    let many = first_length n r.layer.solids in
    let burdened = burdens-length r.layer.frame.gravity Ss in
    let watered = first_length n r.layer.water in
    after_head 8 (40 * index + 32) (result_head r stop steps) (elements_bytes soil level load 0 Bs Ss Ws) (head-length r stop steps) ∙
    element_part soil level load 0 Bs Ss Ws 8 32 index (lit≤ tt) (omega arith) (omega arith) (omega arith) ∙
    pore_part soil level load (get_or (heights_below 0 Ss Ws) index 0) (get_or Bs index 0) (get_or Ss index 0) (get_or Ws index 0)

-- so the key of a job has, for each element, the pore pressure that readings of that job are compared with
pub pore_in-key : (job buffer : List ℕ) (done : (opening job).answer ≡ Done) →
    let r = (opening job).after in
    let run = ended_run r (described job).header.end (described job).header.budget in
    result_size r.layer.frame.elements ≤ length buffer → (index : ℕ) → index < r.layer.frame.elements →
    take 8 (drop (56 + (40 * index + 32)) (key job buffer).buffer) ≡ signed_word (element_pore run.after index)
unfolding overlaid result_size
pore_in-key job buffer done room index h =
    let r = (opening job).after in
    let end = (described job).header.end in
    let budget = (described job).header.budget in
    let run = ended_run r end budget in
    let bytes = result_bytes run.after run.stop run.steps in
    let same = ended_elements r end budget in
    let long = result-length run.after run.stop run.steps in
    rw (key_run job done buffer, (room_enough r end budget buffer room).0)
    (part_front 8 (56 + (40 * index + 32)) bytes (drop (length bytes) buffer) (omega (arith, long, same)) ∙
    pore_in-result run.after run.stop run.steps index (omega (arith, same)))
