-- Flows with what the division left: the long division at every face that water passes.
use Rattle.std.specs.Prelude.{ℕ, ℤ, pos, ◌-ℤ◌, ◌*ℤ◌, List, [], ◌∷◌, ◌++◌, map}
use Rattle.numbers.specs.Rounding.{cut, remainder}
use Rattle.quantities.specs.declared.Face.{Face}
use Rattle.quantities.specs.declared.Face.TheVariants.{Closed, Drained}
use Rattle.rules.specs.Layer.{Site, State, Element, read_elements}
use Rattle.rules.specs.Step.{inner_resistance, outer_resistance}
use Rattle.rules.specs.declared.faces.OpenFace.{OpenFace}

-- a face that water passes, inner or drained, has the pressure difference over it, upward at an inner one and outward at an
-- outer one, and its R
unfoldable pub inner_face : (below above : Element) → OpenFace
unfolding inner_resistance
inner_face below above =
    record { difference = below.excess -ℤ above.excess; resistance = inner_resistance below above }

-- an outer face: none if it is closed
unfoldable pub outer_faces : Face → Element → List OpenFace
unfolding outer_resistance
outer_faces Closed e = []
outer_faces (Drained held) e = record { difference = e.excess -ℤ held.0; resistance = outer_resistance e } ∷ []

unfoldable pub faces_above : (top : Face) → List Element → List OpenFace
unfolding inner_face outer_faces
faces_above top [] = []
faces_above top (e ∷ []) = outer_faces top e
faces_above top (e ∷ f ∷ rest) = inner_face e f ∷ faces_above top (f ∷ rest)

-- every inner or drained face of the layer, from the bottom up
unfoldable pub open_faces : (top bottom : Face) → List Element → List OpenFace
unfolding outer_faces faces_above
open_faces top bottom [] = []
open_faces top bottom (e ∷ rest) = outer_faces bottom e ++ faces_above top (e ∷ rest)

-- what a step of t seconds divides by R
abbrev pub dividend : (t : ℕ) → OpenFace → ℤ
dividend t face = face.difference *ℤ pos t

-- what the division gives and leaves
abbrev pub flow_at : (t : ℕ) → OpenFace → ℤ
flow_at t face = cut (dividend t face) face.resistance

abbrev pub remainder_at : (t : ℕ) → OpenFace → ℤ
remainder_at t face = remainder (dividend t face) face.resistance

-- the inner and drained faces of a layer as it stands
unfoldable pub layer_faces : Site → State → List OpenFace
unfolding open_faces read_elements
layer_faces site s = open_faces site.top site.bottom (read_elements site s)

-- the flows of t seconds through them, and the remainders
unfoldable pub face_flows : Site → State → (t : ℕ) → List ℤ
unfolding layer_faces
face_flows site s t = map (flow_at t) (layer_faces site s)

unfoldable pub face_remainders : Site → State → (t : ℕ) → List ℤ
unfolding layer_faces
face_remainders site s t = map (remainder_at t) (layer_faces site s)
