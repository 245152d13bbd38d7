-- The lists of a layer by index, as loops over arrays read them.
use Prim.Native.Nat.{ℕ, zero, suc, ◌<◌}
use native.Mathlib.Nat.{le_of_suc-le-suc}
use native.Mathlib.Omega.{arith}
use lib.IntN.{ℤ, pos, ◌+ℤ◌, ◌-ℤ◌}
use lib.ListN.{length, get_or, drop}
use mathlib.Core.List.{List, [], ◌∷◌}
use mathlib.Core.Path.{◌≡◌, refl, ap}
use Rattle.numbers.proofs.Filled.{length-tabulate, get_or-tabulate}
use Rattle.numbers.specs.Lists.{paired, last_or}
use Rattle.rules.specs.Curve.{Point, point, points}
use Rattle.rules.specs.Layer.{Site, State, Element, burden, burdens, element, elements_from, read_elements}
use Rattle.rules.specs.Step.{upward, outward, flows_above, moved}
use Rattle.quantities.specs.declared.Face.{Face}
use Rattle.rules.proofs.Points.{at}

-- ---- lists

-- an entry of two lists paired
pub paired_at : {A B C : Type 0} (f : A → B → C) (xs : List A) (ys : List B) (i : ℕ) (a : A) (b : B) (c : C) →
    i < length xs → i < length ys → get_or (paired f xs ys) i c ≡ f (get_or xs i a) (get_or ys i b)
unfolding paired
paired_at f [] ys i a b c h k = absurd (omega arith)
paired_at f (x ∷ xs) [] i a b c h k = absurd (omega arith)
paired_at f (x ∷ xs) (y ∷ ys) zero a b c h k = refl
paired_at f (x ∷ xs) (y ∷ ys) (suc i) a b c h k = paired_at f xs ys i a b c (le_of_suc-le-suc h) (le_of_suc-le-suc k)

-- as many as in each of two lists of one length
pub paired-length : {A B C : Type 0} (f : A → B → C) (xs : List A) (ys : List B) → length xs ≡ length ys →
    length (paired f xs ys) ≡ length xs
unfolding paired
paired-length f [] ys h = refl
paired-length f (a ∷ xs) [] h = absurd (omega arith)
paired-length f (a ∷ xs) (b ∷ ys) h = ap suc (paired-length f xs ys (omega arith))

-- the last entry is the one at the last place
pub last_at : {A : Type 0} (a : A) (rest : List A) (d : A) → last_or a rest ≡ get_or (a ∷ rest) (length rest) d
unfolding last_or
last_at a [] d = refl
last_at a (b ∷ rest) d = last_at b rest d

-- ---- points

module _ (n : ℕ) (xs ys : List ℕ) where
  -- so many points
  pub points-length : length (points n xs ys) ≡ n
  unfolding points
  points-length = length-tabulate n (at n xs ys)

  -- point i has the numbers at place i
  pub points_at : (i : ℕ) (d : Point) → i < n → get_or (points n xs ys) i d ≡ point (get_or xs i 0) (get_or ys i 0)
  unfolding points
  points_at i d h = get_or-tabulate n (at n xs ys) i d h

-- ---- elements

-- element i of a part of the layer
from_at : (site : Site) (load : ℤ) (Ss Ws : List ℕ) (i : ℕ) (d : Element) → i < length Ss → i < length Ws →
    get_or (elements_from site load (burdens site.gravity Ss) Ss Ws) i d ≡
    element site load (burden site.gravity (get_or Ss i 0) (drop (suc i) Ss)) (get_or Ss i 0) (get_or Ws i 0)
unfolding elements_from burdens
from_at site load [] Ws i d h k = absurd (omega arith)
from_at site load (S ∷ Ss) [] i d h k = absurd (omega arith)
from_at site load (S ∷ Ss) (W ∷ Ws) zero d h k = refl
from_at site load (S ∷ Ss) (W ∷ Ws) (suc i) d h k = from_at site load Ss Ws i d (le_of_suc-le-suc h) (le_of_suc-le-suc k)

-- element i has its solids and water, and the burden of all solids above it
pub element_at : (site : Site) (s : State) (i : ℕ) (d : Element) → i < length site.solids → i < length s.water →
    get_or (read_elements site s) i d ≡
    element site s.load (burden site.gravity (get_or site.solids i 0) (drop (suc i) site.solids)) (get_or site.solids i 0) (get_or s.water i 0)
unfolding read_elements
element_at site s i d h k = from_at site s.load site.solids s.water i d h k

-- ---- flows

-- flow i leaves element i through the face to the next
pub flow_at : (top : Face) (t : ℕ) (es : List Element) (i : ℕ) (z : ℤ) (d : Element) → suc i < length es →
    get_or (flows_above top t es) i z ≡ upward t (get_or es i d) (get_or es (suc i) d)
unfolding flows_above
flow_at top t [] i z d h = absurd (omega arith)
flow_at top t (e ∷ []) i z d h = absurd (omega arith)
flow_at top t (e ∷ f ∷ rest) zero z d h = refl
flow_at top t (e ∷ f ∷ rest) (suc i) z d h = flow_at top t (f ∷ rest) i z d (le_of_suc-le-suc h)

-- the last leaves the last element through the top
pub top_flow : (top : Face) (t : ℕ) (e : Element) (rest : List Element) (z : ℤ) (d : Element) →
    get_or (flows_above top t (e ∷ rest)) (length rest) z ≡ outward top t (get_or (e ∷ rest) (length rest) d)
unfolding flows_above
top_flow top t e [] z d = refl
top_flow top t e (f ∷ rest) z d = top_flow top t f rest z d

-- ---- water

-- the new water of element i: less what leaves above, and what enters below
pub moved_at : (below : ℤ) (flows : List ℤ) (water : List ℕ) (i : ℕ) (z : ℤ) → i < length flows → i < length water →
    get_or (moved (below ∷ flows) water) i z ≡ pos (get_or water i 0) -ℤ get_or flows i z +ℤ get_or (below ∷ flows) i z
unfolding moved
moved_at below [] water i z h k = absurd (omega arith)
moved_at below (above ∷ rest) [] i z h k = absurd (omega arith)
moved_at below (above ∷ rest) (w ∷ ws) zero z h k = refl
moved_at below (above ∷ rest) (w ∷ ws) (suc i) z h k = moved_at above rest ws i z (le_of_suc-le-suc h) (le_of_suc-le-suc k)
