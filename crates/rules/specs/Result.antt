-- The result's bytes.
use Rattle.std.specs.Prelude.{ℕ, ◌+◌, ◌*◌, ltb, ℤ, pos, ◌+ℤ◌, ◌-ℤ◌, length, not, List, [], ◌∷◌, ◌++◌}
use Rattle.std.specs.Prelude.{Option, None, Some}
use Rattle.numbers.specs.Arrays.{overlaid}
use Rattle.numbers.specs.Bytes.{bytes}
use Rattle.numbers.specs.Integers.{up, signed_field}
use Rattle.numbers.specs.Lists.{paired, tripled, appended}
use Rattle.numbers.specs.Rounding.{floor}
use Rattle.numbers.specs.Sums.{sum}
use Rattle.quantities.specs.Quantities.{head, pressure_of, element_limits}
use Rattle.rules.specs.Curve.{value_of}
use Rattle.rules.specs.Layer.{Skeleton, skeleton, height, void_ratio, effective_stress, burdens, excess_pressure}
use Rattle.rules.specs.Record.{record_site, record_state, is_layer}
use Rattle.rules.specs.Refusals.{◌if◌, first_cause, refusal_number}
use Rattle.rules.specs.Run.{stop_number}
use Rattle.rules.specs.Tally.{layer_height}
use Rattle.rules.specs.declared.answers.Refusal.{Refusal}
use Rattle.rules.specs.declared.answers.Refusal.TheVariants.{NoLayer, ShortBuffer}
use Rattle.rules.specs.declared.answers.Stop.{Stop}
use Rattle.rules.specs.declared.record.Record.{Record}

-- z: the height of an element's node, over the height of all below
unfoldable pub node_height : (below S W : ℕ) → ℕ
node_height below S W = below + floor (height S W) 2

-- the pore pressure at a node: the excess and that of the water's head over it
unfoldable pub pore_over : (excess top_level : ℤ) (z : ℕ) → ℤ
unfolding pressure_of
pore_over excess top_level z = excess +ℤ (pressure_of (head (top_level -ℤ pos z))).0

-- that of an element
unfoldable pub pore_pressure : Skeleton → (top_level load : ℤ) (below B S W : ℕ) → ℤ
unfolding pore_over excess_pressure node_height
pore_pressure soil top_level load below B S W =
    pore_over (excess_pressure soil load B S W) top_level (node_height below S W)

abbrev pub word : ℕ → List ℕ
word n = bytes 8 n

abbrev pub signed_word : ℤ → List ℕ
signed_word z = word (signed_field z)

-- mark, version, stop, number of elements, a zero
abbrev pub before_clock : Stop → (elements : ℕ) → List ℕ
before_clock stop elements = (76 ∷ 83 ∷ 82 ∷ []) ++ bytes 2 1 ++ bytes 1 (stop_number stop) ++ bytes 1 elements ++ bytes 1 0

-- and clock, steps, load, both outflows and settlement
unfoldable pub head_bytes : Stop → (elements clock steps load : ℕ) (top_outflow bottom_outflow settlement : ℤ) → List ℕ
unfolding bytes stop_number
head_bytes stop elements clock steps load top_outflow bottom_outflow settlement =
    before_clock stop elements ++
    word clock ++ word steps ++ word load ++ signed_word top_outflow ++ signed_word bottom_outflow ++ signed_word settlement

-- W, E, effective stress, total stress and pore pressure
unfoldable pub element_words : (W E effective : ℕ) (pore : ℤ) → List ℕ
unfolding bytes
element_words W E effective pore = word W ++ word E ++ word effective ++ signed_word (pore +ℤ pos effective) ++ signed_word pore

-- those of an element
unfoldable pub element_bytes : Skeleton → (top_level load : ℤ) (below B S W : ℕ) → List ℕ
unfolding element_words void_ratio effective_stress value_of pore_pressure
element_bytes soil top_level load below B S W =
    element_words W (void_ratio S W) (value_of (effective_stress soil S W)) (pore_pressure soil top_level load below B S W)

-- the height below each element, from that below the lowest
unfoldable pub heights_below : (below : ℕ) (Ss Ws : List ℕ) → List ℕ
heights_below below [] Ws = []
heights_below below (S ∷ Ss) [] = []
heights_below below (S ∷ Ss) (W ∷ Ws) = below ∷ heights_below (below + height S W) Ss Ws

unfoldable pub elements_bytes : Skeleton → (top_level load : ℤ) (below : ℕ) (Bs Ss Ws : List ℕ) → List ℕ
unfolding element_bytes heights_below appended tripled paired
elements_bytes soil top_level load below Bs Ss Ws =
    appended (paired (λ f W. f W) (tripled (element_bytes soil top_level load) (heights_below below Ss Ws) Bs Ss) Ws)

-- the starting height less the present one
unfoldable pub settlement : Record → ℤ
unfolding record_site record_state sum layer_height
settlement r =
    let solids = (record_site r).solids in
    pos (sum solids + r.layer.frame.starting_water) -ℤ pos (layer_height solids (record_state r))

-- the fields of a record's result before its elements; no layer's load is negative
unfoldable pub result_head : Record → Stop → (steps : ℕ) → List ℕ
unfolding head_bytes settlement record_state
result_head r stop steps =
    let s = record_state r in
    head_bytes stop r.layer.frame.elements s.clock steps (up s.load) s.top_outflow s.bottom_outflow (settlement r)

-- the result of a record, a run's stop and its number of steps
unfoldable pub result_bytes : Record → Stop → (steps : ℕ) → List ℕ
unfolding result_head record_site record_state elements_bytes burdens
result_bytes r stop steps =
    let site = record_site r in
    let s = record_state r in
    result_head r stop steps ++
    elements_bytes (skeleton site) site.top_level s.load 0 (burdens site.gravity site.solids) site.solids s.water

-- the length of a result of so many elements
unfoldable pub result_size : (elements : ℕ) → ℕ
result_size elements = 56 + 40 * elements

-- that of the longest
abbrev pub result_most : ℕ
result_most = result_size element_limits.most

-- why a result is refused, if it is: 11, then 10
unfoldable pub result_refusal : Record → (room : ℕ) → Option Refusal
unfolding first_cause is_layer result_size
result_refusal r room =
    first_cause ((NoLayer if not (is_layer r)) ∷ (ShortBuffer if ltb room (result_size r.layer.frame.elements)) ∷ [])

-- the number returned, and the buffer as it is left
pub record Returned : Type 0 where
  pub number : ℕ
  pub buffer : List ℕ

unfoldable pub refused_result : Refusal → (buffer : List ℕ) → Returned
unfolding refusal_number
refused_result cause buffer = record { number = refusal_number cause; buffer = buffer }

-- a result handed to a buffer: its first places are written, or none
unfoldable pub result : Record → Stop → (steps : ℕ) (buffer : List ℕ) → Returned
unfolding result_refusal refused_result result_bytes overlaid
result r stop steps buffer =
    elim (result_refusal r (length buffer)) [
      | Some cause ↦ refused_result cause buffer
      | None ↦ record { number = 0; buffer = overlaid (result_bytes r stop steps) buffer }
    ]
