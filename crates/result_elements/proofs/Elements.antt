-- The elements of a result, as a loop stores them.
use Prim.Native.Nat.{ℕ, ◌+◌, ◌*◌}
use native.Mathlib.Nat.{add-zero, zero-add}
use native.Mathlib.Omega.{arith}
use lib.IntN.{ℤ, pos, ◌+ℤ◌}
use lib.ListN.{length, get_or, length-append}
use lib.Seq.{sets}
use mathlib.Core.List.{List, [], ◌∷◌, ◌++◌, append-nil, append_assoc}
use mathlib.Core.Path.{◌≡◌, refl, sym, ap, ◌∙◌}
use Rattle.encoding.proofs.Stores.{sets_append}
use Rattle.numbers.specs.Arrays.{first_places}
use Rattle.numbers.proofs.Filled.{first_length, tabulate_more}
use Rattle.numbers.specs.Sums.{sum}
use Rattle.numbers.proofs.Sums.{sum-append}
use Rattle.rules.specs.Curve.{value_of}
use Rattle.rules.specs.Layer.{Skeleton, height, void_ratio, effective_stress}
use Rattle.rules.specs.Result.{word, signed_word, element_words, pore_pressure, element_bytes, elements_bytes}

-- five stores, one after the other
pub words_stored : (l a b c d e : List ℕ) (at W E effective : ℕ) (pore : ℤ) → a ≡ sets l at (word W) → b ≡ sets a (at + 8) (word E) →
    c ≡ sets b (at + 16) (word effective) → d ≡ sets c (at + 24) (signed_word (pore +ℤ pos effective)) → e ≡ sets d (at + 32) (signed_word pore) →
    e ≡ sets l at (element_words W E effective pore)
unfolding element_words
words_stored l a b c d e at W E effective pore first second third fourth fifth =
    let total = signed_word (pore +ℤ pos effective) in
    rw (fifth, fourth, third, second, first)
    (sym (
    sets_append l at (word W ++ word E ++ word effective ++ total) (signed_word pore) ∙
    rw (
      sets_append l at (word W ++ word E ++ word effective) total,
      sets_append l at (word W ++ word E) (word effective),
      sets_append l at (word W) (word E),
    )
    refl))

-- they are an element's bytes
pub element_stored : (soil : Skeleton) (level load : ℤ) (below B S W E effective : ℕ) (pore : ℤ) (l out : List ℕ) (at : ℕ) →
    out ≡ sets l at (element_words W E effective pore) → E ≡ void_ratio S W → effective ≡ value_of (effective_stress soil S W) →
    pore ≡ pore_pressure soil level load below B S W → out ≡ sets l at (element_bytes soil level load below B S W)
unfolding element_bytes
element_stored soil level load below B S W E effective pore l out at stored ratio stress pressure = rw (stored, ratio, stress, pressure) refl

-- the height of some elements
unfoldable pub height_of : (Ss Ws : List ℕ) → ℕ
unfolding sum
height_of Ss Ws = sum Ss + sum Ws

-- one place more of an array
first_more : (n : ℕ) (array : List ℕ) → first_places (n + 1) array ≡ first_places n array ++ (get_or array n 0 ∷ [])
unfolding first_places
first_more n array = tabulate_more n (λ i. get_or array i 0)

-- the height with one element more
pub height_more : (solids water : List ℕ) (j below : ℕ) → below ≡ height_of (first_places j solids) (first_places j water) →
    below + (get_or solids j 0 + get_or water j 0) ≡ height_of (first_places (j + 1) solids) (first_places (j + 1) water)
unfolding height_of sum
height_more solids water j below h =
    rw (first_more j solids, first_more j water, sum-append (first_places j solids), sum-append (first_places j water)) (omega arith)

module _ (soil : Skeleton) (level load : ℤ) where
  -- the bytes of an element are five numbers
  pub element-length : (below B S W : ℕ) → length (element_bytes soil level load below B S W) ≡ 40
  unfolding element_bytes
  element-length below B S W = simp length-append

  -- 40 bytes an element
  pub elements_length : (below : ℕ) (Bs Ss Ws : List ℕ) → length Ss ≡ length Bs → length Ws ≡ length Bs →
      length (elements_bytes soil level load below Bs Ss Ws) ≡ 40 * length Bs
  unfolding elements_bytes
  elements_length below [] [] Ws h k = refl
  elements_length below [] (S ∷ Ss) Ws h k = absurd (omega arith)
  elements_length below (B ∷ Bs) [] Ws h k = absurd (omega arith)
  elements_length below (B ∷ Bs) (S ∷ Ss) [] h k = absurd (omega arith)
  elements_length below (B ∷ Bs) (S ∷ Ss) (W ∷ Ws) h k =
      let first = element_bytes soil level load below B S W in
      let rest = elements_bytes soil level load (below + height S W) Bs Ss Ws in
      omega (
        arith,
        length-append first rest,
        element-length below B S W,
        elements_length (below + height S W) Bs Ss Ws (omega arith) (omega arith),
      )

  -- one element more comes last, over the height of all others
  pub elements_more : (below : ℕ) (Bs Ss Ws : List ℕ) (B S W : ℕ) → length Ss ≡ length Bs → length Ws ≡ length Bs →
      elements_bytes soil level load below (Bs ++ (B ∷ [])) (Ss ++ (S ∷ [])) (Ws ++ (W ∷ [])) ≡
      elements_bytes soil level load below Bs Ss Ws ++ element_bytes soil level load (below + height_of Ss Ws) B S W
  unfolding elements_bytes height_of sum
  elements_more below [] [] [] B S W h k = rw (add-zero below) (append-nil (element_bytes soil level load below B S W))
  elements_more below [] [] (W' ∷ Ws) B S W h k = absurd (omega arith)
  elements_more below [] (S' ∷ Ss) Ws B S W h k = absurd (omega arith)
  elements_more below (B' ∷ Bs) [] Ws B S W h k = absurd (omega arith)
  elements_more below (B' ∷ Bs) (S' ∷ Ss) [] B S W h k = absurd (omega arith)
  elements_more below (B' ∷ Bs) (S' ∷ Ss) (W' ∷ Ws) B S W h k =
      let first = element_bytes soil level load below B' S' W' in
      let same : below + height S' W' + (sum Ss + sum Ws) ≡ below + (S' + sum Ss + (W' + sum Ws)) = omega arith in
      ap (λ (rest : List ℕ). first ++ rest) (elements_more (below + height S' W') Bs Ss Ws B S W (omega arith) (omega arith)) ∙
      rw (same, append_assoc first) refl

  module _ (burden solids water : List ℕ) where
    -- the bytes of the first elements of arrays
    abbrev pub first_elements : ℕ → List ℕ
    first_elements n = elements_bytes soil level load 0 (first_places n burden) (first_places n solids) (first_places n water)

    module _ (j : ℕ) where
      abbrev Bs : List ℕ
      Bs = first_places j burden

      abbrev Ss : List ℕ
      Ss = first_places j solids

      abbrev Ws : List ℕ
      Ws = first_places j water

      first_elements_length : length (first_elements j) ≡ 40 * j
      first_elements_length =
          let b = first_length j burden in
          elements_length 0 Bs Ss Ws (first_length j solids ∙ sym b) (first_length j water ∙ sym b) ∙ ap (λ (n : ℕ). 40 * n) b

      first_elements_more : first_elements (j + 1) ≡
          first_elements j ++ element_bytes soil level load (height_of Ss Ws) (get_or burden j 0) (get_or solids j 0) (get_or water j 0)
      first_elements_more =
          let b = first_length j burden in
          rw (first_more j burden, first_more j solids, first_more j water)
          (rw (zero-add (height_of Ss Ws)) at
          (elements_more 0 Bs Ss Ws (get_or burden j 0) (get_or solids j 0) (get_or water j 0) (first_length j solids ∙ sym b) (first_length j water ∙ sym b)))

      -- one element more is stored after the others
      pub elements_stored : (l out next : List ℕ) (below : ℕ) → out ≡ sets l 56 (first_elements j) → below ≡ height_of Ss Ws →
          next ≡ sets out (56 + 40 * j) (element_bytes soil level load below (get_or burden j 0) (get_or solids j 0) (get_or water j 0)) →
          next ≡ sets l 56 (first_elements (j + 1))
      elements_stored l out next below others height one =
          rw (
            one,
            others,
            height,
            first_elements_more,
            sets_append l 56 (first_elements j) (element_bytes soil level load (height_of Ss Ws) (get_or burden j 0) (get_or solids j 0) (get_or water j 0)),
            first_elements_length,
          )
          refl
