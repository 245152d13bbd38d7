-- Words stored one after the other, and lists of words that all have one length.
use Prim.Native.Nat.{ℕ, suc, ◌+◌, ◌*◌}
use native.Mathlib.Numerals.{add-one}
use native.Mathlib.Omega.{arith}
use lib.IntN.{ℤ}
use lib.ListN.{length, set}
use lib.Seq.{sets}
use mathlib.Core.List.{List, [], ◌∷◌, ◌++◌}
use mathlib.Core.Path.{◌≡◌, refl, ap, ◌∙◌}
use Rattle.encoding.proofs.Stores.{sets_append, sets_then}
use Rattle.numbers.proofs.Appended.{appended_more, length-appended}
use Rattle.numbers.proofs.Filled.{tabulate_more}
use Rattle.numbers.specs.Arrays.{tabulate}
use Rattle.numbers.specs.Integers.{signed_field}
use Rattle.numbers.specs.Lists.{appended}
use Rattle.rules.specs.Division.{flow_at, remainder_at}
use Rattle.rules.specs.Layer.{void_ratio}
use Rattle.rules.specs.Record.{compressibility_points, conductivity_points}
use Rattle.rules.specs.declared.faces.OpenFace.{OpenFace}
use Rattle.rules.specs.declared.record.Soil.{Soil}
use Rattle.working.specs.Working.{face_words, curve_reading, reading_words, element_words}
use Rattle.working.specs.declared.CurveReading.{CurveReading}

pub three_stores : (array : List ℕ) (at a b c : ℕ) → set (set (set array at a) (at + 1) b) (at + 2) c ≡ sets array at (a ∷ b ∷ c ∷ [])
three_stores array at a b c =
    let two : at + 2 ≡ suc (suc at) = omega arith in
    rw (add-one at, two)

pub four_stores : (array : List ℕ) (at a b c d : ℕ) →
    set (set (set (set array at a) (at + 1) b) (at + 2) c) (at + 3) d ≡ sets array at (a ∷ b ∷ c ∷ d ∷ [])
four_stores array at a b c d =
    let two : at + 2 ≡ suc (suc at) = omega arith in
    let three : at + 3 ≡ suc (suc (suc at)) = omega arith in
    rw (add-one at, two, three)

-- a face's four words
pub face_stored : (t : ℕ) (face : OpenFace) (out : List ℕ) (at : ℕ) {a c d : ℕ} {difference flow left : ℤ} → a ≡ signed_field difference →
    c ≡ signed_field flow → d ≡ signed_field left → difference ≡ face.difference → flow ≡ flow_at t face → left ≡ remainder_at t face →
    set (set (set (set out at a) (at + 1) face.resistance) (at + 2) c) (at + 3) d ≡ sets out at (face_words t face)
face_stored t face out at first third fourth difference-is flow_is left_is =
    rw (first ∙ ap signed_field difference-is, third ∙ ap signed_field flow_is, fourth ∙ ap signed_field left_is)
    (four_stores out at (signed_field face.difference) face.resistance (signed_field (flow_at t face)) (signed_field (remainder_at t face)))

-- an element's nine words
pub element_stored : (soil : Soil) (S W after at : ℕ) (out : List ℕ) {E : ℕ} {stress conductivity : CurveReading} {a b c : List ℕ} →
    E ≡ void_ratio S W → stress ≡ curve_reading (compressibility_points soil) E → conductivity ≡ curve_reading (conductivity_points soil) E →
    a ≡ sets out at (W ∷ after ∷ E ∷ []) → b ≡ sets a (at + 3) (reading_words stress) → c ≡ sets b (at + 6) (reading_words conductivity) →
    c ≡ sets out at (element_words soil S W after)
element_stored soil S W after at out {E} {stress} {conductivity} {a} ratio read passed first second third =
    sets_then out at (W ∷ after ∷ E ∷ []) (reading_words stress ++ reading_words conductivity) first refl
    (sets_then a (at + 3) (reading_words stress) (reading_words conductivity) second (omega arith) third) ∙
    rw (read, passed, ratio) refl

module _ (width : ℕ) (f : ℕ → List ℕ) (wide : (i : ℕ) → length (f i) ≡ width) (before : List ℕ) (at : ℕ) where
  -- the first lists, from a place on
  abbrev pub stored_first : ℕ → List ℕ
  stored_first i = sets before at (appended (tabulate i f))

  pub stored_none : before ≡ stored_first 0
  unfolding appended tabulate
  stored_none = refl

  -- one list more
  pub stored_more : (i : ℕ) {out next : List ℕ} → out ≡ stored_first i → next ≡ sets out (at + width * i) (f i) → next ≡ stored_first (i + 1)
  stored_more i e k =
      rw (
        k,
        e,
        tabulate_more i f,
        appended_more (tabulate i f) (f i),
        sets_append before at (appended (tabulate i f)) (f i),
        length-appended width i f (λ j _. wide j),
      )
      refl

  -- all of them
  pub stored_all : (i n : ℕ) {out : List ℕ} → out ≡ stored_first i → i ≡ n → out ≡ stored_first n
  stored_all i n e end = rw (← end) e
