-- The working of a step as a grader writes it out, in words of 64 bits.
use Rattle.std.specs.Prelude.{ℕ, ◌+◌, length, get_or, List, [], ◌∷◌, ◌++◌, map}
use Rattle.std.specs.Prelude.{None, Some}
use Rattle.numbers.specs.Arrays.{tabulate, overlaid}
use Rattle.numbers.specs.Integers.{signed_field}
use Rattle.numbers.specs.Lists.{appended}
use Rattle.rules.specs.Calls.{called}
use Rattle.rules.specs.Curve.{Point, curve_at, segment_at, curve_remainder, value_of}
use Rattle.rules.specs.Division.{layer_faces, flow_at, remainder_at}
use Rattle.rules.specs.Layer.{void_ratio}
use Rattle.rules.specs.Outcome.{refusal_of}
use Rattle.rules.specs.Record.{compressibility_points, conductivity_points, record_site, record_state}
use Rattle.rules.specs.declared.answers.Call.TheVariants.{Step}
use Rattle.rules.specs.declared.faces.OpenFace.{OpenFace}
use Rattle.rules.specs.declared.record.Record.{Record}
use Rattle.rules.specs.declared.record.Soil.{Soil}
use Rattle.working.specs.declared.CurveReading.{CurveReading}
use Rattle.rules.specs.declared.answers.Refusal.{Refusal}
use Rattle.std.specs.Prelude.{Result, Ok, Err}

-- the long division of t seconds at a face: difference, R, flow, remainder
abbrev pub face_words : (t : ℕ) → OpenFace → List ℕ
face_words t face = signed_field face.difference ∷ face.resistance ∷ signed_field (flow_at t face) ∷ signed_field (remainder_at t face) ∷ []

-- a curve read at a void ratio: the segment, 1 the first, the value there, and what its interpolation leaves
unfoldable pub curve_reading : List Point → (E : ℕ) → CurveReading
unfolding segment_at curve_at value_of curve_remainder
curve_reading curve E = record { segment = segment_at curve E + 1; value = value_of (curve_at curve E); remainder = curve_remainder curve E }

abbrev pub reading_words : CurveReading → List ℕ
reading_words reading = reading.segment ∷ reading.value ∷ reading.remainder ∷ []

-- an element: its water before and after the step, E, and both curves at E
abbrev pub element_words : Soil → (S W after : ℕ) → List ℕ
element_words soil S W after =
    let E = void_ratio S W in
    (W ∷ after ∷ E ∷ []) ++
    (reading_words (curve_reading (compressibility_points soil) E) ++ reading_words (curve_reading (conductivity_points soil) E))

-- those of the element at an index
abbrev pub element_in : (r after : Record) (j : ℕ) → List ℕ
element_in r after j = element_words r.soil (get_or r.layer.solids j 0) (get_or r.layer.water j 0) (get_or after.layer.water j 0)

-- all faces from the bottom up, and all elements, the lowest first
unfoldable pub faces_words : Record → (t : ℕ) → List ℕ
unfolding layer_faces record_site record_state appended
faces_words r t = appended (map (face_words t) (layer_faces (record_site r) (record_state r)))

unfoldable pub elements_words : (r after : Record) → List ℕ
unfolding void_ratio curve_reading tabulate appended
elements_words r after = appended (tabulate r.layer.frame.elements (element_in r after))

-- how many of each, then their words
unfoldable pub words_between : (r after : Record) (t : ℕ) → List ℕ
unfolding layer_faces record_site record_state faces_words elements_words
words_between r after t =
    (length (layer_faces (record_site r) (record_state r)) ∷ r.layer.frame.elements ∷ faces_words r t) ++ elements_words r after

-- the working of a step of t seconds
unfoldable pub working_words : Record → (t : ℕ) → List ℕ
unfolding called words_between
working_words r t = words_between r (called r (Step t)).after t

-- what the call answers, and the buffer after it
pub record Working : Type 0 where
  pub answer : Result ℕ Refusal
  pub words : List ℕ

-- it is refused as that step is, and then all places stay; otherwise the words go to the first places
unfoldable pub working : Record → (t : ℕ) (out : List ℕ) → Working
unfolding called refusal_of working_words overlaid
working r t out =
    elim (refusal_of (called r (Step t)).answer) [
      | Some cause ↦ record { answer = Err cause; words = out }
      | None ↦ record { answer = Ok (length (working_words r t)); words = overlaid (working_words r t) out }
    ]
