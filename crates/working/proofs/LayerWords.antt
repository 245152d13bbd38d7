-- The words of a layer, as its arrays give them.
use Prim.Native.Nat.{ℕ, suc, ◌+◌, ◌*◌, ◌≤◌}
use native.Mathlib.Nat.{mul-suc}
use native.Mathlib.Omega.{arith}
use lib.IntN.{ℤ}
use lib.ListN.{length, get_or, length-append}
use lib.Seq.{sets}
use mathlib.Core.Bool.{true}
use mathlib.Core.List.{List, [], ◌∷◌, map}
use mathlib.Core.Path.{◌≡◌, refl, ap, ◌∙◌}
use Rattle.encoding.proofs.Stores.{sets_then, sets_front}
use Rattle.laws.specs.Divisions.{no_face}
use Rattle.lent.specs.Worked.{excesses_in, resistances_in}
use Rattle.numbers.proofs.Appended.{length-appended}
use Rattle.numbers.specs.Arrays.{tabulate, overlaid}
use Rattle.numbers.specs.Lists.{appended}
use Rattle.open_faces.proofs.FacesAt.{face_most}
use Rattle.open_faces.specs.Faces.{face_count, face_in}
use Rattle.quantities.specs.declared.Face.{Face}
use Rattle.record_flows.proofs.LayerFaces.{face_is, faces_count}
use Rattle.rules.specs.Division.{layer_faces}
use Rattle.rules.specs.Record.{record_site, record_state, is_layer}
use Rattle.rules.specs.declared.faces.OpenFace.{OpenFace}
use Rattle.rules.specs.declared.record.Record.{Record}
use Rattle.working.specs.FacesIn.{faces_in}
use Rattle.working.specs.Working.{face_words, element_in, faces_words, elements_words, words_between}

-- a list by its numbers
map_tabulated : {A B : Type 0} (f : A → B) (l : List A) (g : ℕ → A) (d : A) → ((k : ℕ) → g k ≡ get_or l k d) → tabulate (length l) (λ k. f (g k)) ≡ map f l
unfolding tabulate
map_tabulated f [] g d same = refl
map_tabulated f (a ∷ l) g d same = rw (same 0, map_tabulated f l (λ k. g (suc k)) d (λ k. same (suc k))) refl

-- four words a face
faces_length : (t : ℕ) (faces : List OpenFace) → length (appended (map (face_words t) faces)) ≡ 4 * length faces
unfolding appended
faces_length t [] = refl
faces_length t (face ∷ faces) =
    length-append (face_words t face) (appended (map (face_words t) faces)) ∙ rw (faces_length t faces, mul-suc 4 (length faces)) (omega arith)

pub few_faces : (n : ℕ) (top bottom : Face) → n ≤ 128 → face_count n top bottom ≤ 129
few_faces n top bottom h = omega (arith, face_most top, face_most bottom)

abbrev pub n : Record → ℕ
n r = r.layer.frame.elements

abbrev pub top : Record → Face
top r = r.layer.frame.top

abbrev pub bottom : Record → Face
bottom r = r.layer.frame.bottom

abbrev faces : Record → List OpenFace
faces r = layer_faces (record_site r) (record_state r)

-- the words of its faces
module _ (r : Record) (is : is_layer r ≡ true) (t : ℕ) (excess₀ : List ℤ) (resistance₀ : List ℕ) where
  words_are : faces_in t (n r) (top r) (bottom r) (excesses_in r excess₀) (resistances_in r resistance₀) ≡ length (faces r) ∷ n r ∷ faces_words r t
  unfolding faces_words
  words_are =
      rw (faces_count r is excess₀ resistance₀)
      (ap (λ (l : List (List ℕ)). length (faces r) ∷ n r ∷ appended l)
      (map_tabulated (face_words t) (faces r) (face_in (n r) (top r) (bottom r) (excesses_in r excess₀) (resistances_in r resistance₀)) no_face (face_is r is excess₀ resistance₀)))

  pub faces_stored : (before : List ℕ) {after : List ℕ} {excess : List ℤ} {resistance : List ℕ} → excess ≡ excesses_in r excess₀ →
      resistance ≡ resistances_in r resistance₀ → after ≡ sets before 0 (faces_in t (n r) (top r) (bottom r) excess resistance) →
      after ≡ sets before 0 (length (faces r) ∷ n r ∷ faces_words r t)
  faces_stored before {after} excess_is resistance_is stored = (rw (excess_is, resistance_is) at stored) ∙ ap (sets before 0) words_are

-- how many words there are, and where they go
module _ (r after : Record) (t : ℕ) where
  heads_length : length (length (faces r) ∷ n r ∷ faces_words r t) ≡ 2 + 4 * length (faces r)
  unfolding faces_words
  heads_length = omega (arith, faces_length t (faces r))

  elements_length : length (elements_words r after) ≡ 9 * n r
  unfolding elements_words
  elements_length = length-appended 9 (n r) (element_in r after) (λ j h. refl)

  pub words_length : length (words_between r after t) ≡ 2 + 4 * length (faces r) + 9 * n r
  unfolding words_between
  words_length =
      length-append (length (faces r) ∷ n r ∷ faces_words r t) (elements_words r after) ∙ rw (heads_length, elements_length) refl

  pub words_stored : (before : List ℕ) {between out : List ℕ} {count : ℕ} → count ≡ length (faces r) →
      between ≡ sets before 0 (length (faces r) ∷ n r ∷ faces_words r t) → out ≡ sets between (2 + 4 * count) (elements_words r after) →
      2 + 4 * length (faces r) + 9 * n r ≤ length before → out ≡ overlaid (words_between r after t) before
  unfolding words_between
  words_stored before count-is first second room =
      sets_then before 0 (length (faces r) ∷ n r ∷ faces_words r t) (elements_words r after) first (omega (arith, heads_length, count-is)) second ∙
      sets_front before (words_between r after t) (rw words_length room)
