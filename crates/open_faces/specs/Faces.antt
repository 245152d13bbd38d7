-- The inner and drained faces of a layer as arrays hold it, by their numbers.
use Rattle.std.specs.Prelude.{ℕ, ◌+◌, ◌-◌, ℤ, get_or, List, []}
use Rattle.element.specs.Elements.{elements_in}
use Rattle.laws.specs.Divisions.{no_face}
use Rattle.quantities.specs.declared.Face.{Face}
use Rattle.rules.specs.Division.{open_faces}
use Rattle.rules.specs.Record.{face_number}
use Rattle.rules.specs.declared.faces.OpenFace.{OpenFace}

-- how many there are: one fewer than elements between them, and the drained outer ones
abbrev pub face_count : (elements : ℕ) (top bottom : Face) → ℕ
face_count elements top bottom = elements - 1 + face_number top + face_number bottom

-- face k, from the bottom up
unfoldable pub face_in : (elements : ℕ) (top bottom : Face) (excess : List ℤ) (resistance : List ℕ) → ℕ → OpenFace
unfolding open_faces elements_in
face_in elements top bottom excess resistance k = get_or (open_faces top bottom (elements_in elements excess resistance [])) k no_face
