-- The words of faces whose elements' excess pressures and resistances are in arrays.
use Rattle.std.specs.Prelude.{ℕ, ℤ, List, ◌∷◌}
use Rattle.numbers.specs.Arrays.{tabulate}
use Rattle.numbers.specs.Lists.{appended}
use Rattle.open_faces.specs.Faces.{face_count, face_in}
use Rattle.quantities.specs.declared.Face.{Face}
use Rattle.working.specs.Working.{face_words}

-- those of face k
abbrev pub words_of_face : (t elements : ℕ) (top bottom : Face) (excess : List ℤ) (resistance : List ℕ) (k : ℕ) → List ℕ
words_of_face t elements top bottom excess resistance k = face_words t (face_in elements top bottom excess resistance k)

-- the numbers of faces and of elements, and the words of all faces
abbrev pub faces_in : (t elements : ℕ) (top bottom : Face) (excess : List ℤ) (resistance : List ℕ) → List ℕ
faces_in t elements top bottom excess resistance =
    face_count elements top bottom ∷ elements ∷ appended (tabulate (face_count elements top bottom) (words_of_face t elements top bottom excess resistance))
