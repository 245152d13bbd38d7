-- What is promised of the long division at a layer's faces.
use Rattle.std.specs.Prelude.{ℕ, ◌<◌, ℤ, pos, neg_ℤ, length, get_or, List, [], ◌∷◌, ◌++◌}
use Rattle.numbers.specs.Quotients.{Divides}
use Rattle.quantities.specs.declared.Face.{Face}
use Rattle.quantities.specs.declared.Face.TheVariants.{Closed, Drained}
use Rattle.rules.specs.Division.{dividend}
use Rattle.rules.specs.declared.faces.OpenFace.{OpenFace}

-- what stands for a face where there is none
abbrev pub no_face : OpenFace
no_face = record { difference = pos 0; resistance = 0 }

-- at every face difference × t is the flow times R and the remainder, by the law of quotient and remainder
abbrev pub DividesAtEach : (t : ℕ) (faces : List OpenFace) (flows remainders : List ℤ) → Type 0
DividesAtEach t faces flows remainders = (k : ℕ) → k < length faces →
    Divides (dividend t (get_or faces k no_face)) (get_or faces k no_face).resistance (get_or flows k (pos 0)) (get_or remainders k (pos 0))

-- flows through the inner and drained faces as flows up through all faces: the bottom's goes in where it went out, and a closed
-- face has 0
unfoldable pub with_bottom : (bottom : Face) → List ℤ → List ℤ
with_bottom Closed flows = pos 0 ∷ flows
with_bottom (Drained held) [] = []
with_bottom (Drained held) (out ∷ above) = neg_ℤ out ∷ above

unfoldable pub with_top : (top : Face) → List ℤ → List ℤ
with_top Closed flows = flows ++ (pos 0 ∷ [])
with_top (Drained held) flows = flows

unfoldable pub all_upward : (top bottom : Face) → List ℤ → List ℤ
unfolding with_bottom with_top
all_upward top bottom flows = with_bottom bottom (with_top top flows)
