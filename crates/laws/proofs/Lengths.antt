-- How many elements, flows and water heights there are.
use Prim.Native.Nat.{ℕ, suc}
use native.Mathlib.Omega.{arith}
use lib.IntN.{ℤ, neg_ℤ}
use lib.ListN.{length}
use mathlib.Core.List.{List, [], ◌∷◌}
use mathlib.Core.Path.{◌≡◌, refl, ap, ◌∙◌}
use Rattle.numbers.specs.Lists.{paired}
use Rattle.rules.specs.Layer.{Site, State, Element, burdens, elements_from, read_elements}
use Rattle.rules.specs.Step.{outward, flows_above, upward_flows, moved, new_height, stepped}
use Rattle.quantities.specs.declared.Face.{Face}

-- a burden for each element
pub burdens-length : (g : ℕ) (Ss : List ℕ) → length (burdens g Ss) ≡ length Ss
unfolding burdens
burdens-length g [] = refl
burdens-length g (S ∷ Ss) = ap suc (burdens-length g Ss)

-- an element for each burden, solids height and water height, where there are as many of each
from_length : (site : Site) (load : ℤ) (Bs Ss Ws : List ℕ) → length Bs ≡ length Ws → length Ss ≡ length Ws →
    length (elements_from site load Bs Ss Ws) ≡ length Ws
unfolding elements_from
from_length site load [] Ss [] h k = refl
from_length site load [] Ss (W ∷ Ws) h k = absurd (omega arith)
from_length site load (B ∷ Bs) [] [] h k = refl
from_length site load (B ∷ Bs) [] (W ∷ Ws) h k = absurd (omega arith)
from_length site load (B ∷ Bs) (S ∷ Ss) [] h k = refl
from_length site load (B ∷ Bs) (S ∷ Ss) (W ∷ Ws) h k = ap suc (from_length site load Bs Ss Ws (omega arith) (omega arith))

-- an element for each water height
pub elements_length : (site : Site) (s : State) → length s.water ≡ length site.solids → length (read_elements site s) ≡ length s.water
unfolding read_elements
elements_length site s h =
    from_length site s.load (burdens site.gravity site.solids) site.solids s.water
    (omega (arith, burdens-length site.gravity site.solids)) (omega arith)

-- a flow above each element
pub above_length : (top : Face) (t : ℕ) (es : List Element) → length (flows_above top t es) ≡ length es
unfolding flows_above
above_length top t [] = refl
above_length top t (e ∷ []) = refl
above_length top t (e ∷ f ∷ rest) = ap suc (above_length top t (f ∷ rest))

-- a new water height for each flow above
pub moved_length : (below : ℤ) (flows : List ℤ) (water : List ℕ) → length flows ≡ length water →
    length (moved (below ∷ flows) water) ≡ length water
unfolding moved
moved_length below [] [] h = refl
moved_length below [] (w ∷ ws) h = absurd (omega arith)
moved_length below (above ∷ rest) [] h = refl
moved_length below (above ∷ rest) (w ∷ ws) h = ap suc (moved_length above rest ws (omega arith))

-- a new water height for each element
pub flows_moved_length : (top bottom : Face) (t : ℕ) (es : List Element) (water : List ℕ) → length es ≡ length water →
    length (moved (upward_flows top bottom t es) water) ≡ length water
unfolding upward_flows moved
flows_moved_length top bottom t [] water h = h
flows_moved_length top bottom t (e ∷ rest) water h =
    moved_length (neg_ℤ (outward bottom t e)) (flows_above top t (e ∷ rest)) water (above_length top t (e ∷ rest) ∙ h)

-- one flow more than elements
pub flows_length : (top bottom : Face) (t : ℕ) (e : Element) (rest : List Element) →
    length (upward_flows top bottom t (e ∷ rest)) ≡ suc (length (e ∷ rest))
unfolding upward_flows
flows_length top bottom t e rest = ap suc (above_length top t (e ∷ rest))

-- two lists of one length pair to as many entries
pub paired-length : {A B C : Type 0} (f : A → B → C) (xs : List A) (ys : List B) → length ys ≡ length xs →
    length (paired f xs ys) ≡ length xs
unfolding paired
paired-length f [] ys h = refl
paired-length f (x ∷ xs) [] h = absurd (omega arith)
paired-length f (x ∷ xs) (y ∷ ys) h = ap suc (paired-length f xs ys (omega arith))

-- a step keeps the number of water heights
pub stepped-length : (site : Site) (t : ℕ) (s : State) → length s.water ≡ length site.solids →
    length (stepped site t s).water ≡ length s.water
unfolding stepped
stepped-length site t s h =
    paired-length new_height s.water (moved (upward_flows site.top site.bottom t (read_elements site s)) s.water)
    (flows_moved_length site.top site.bottom t (read_elements site s) s.water (elements_length site s h))
