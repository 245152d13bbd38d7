-- The inner and drained faces of a layer: how many there are, each by its number, and the division at each.
use Prim.Native.Nat.{ℕ, zero, suc, ◌+◌, ◌<◌}
use native.Mathlib.Nat.{le_of_suc-le-suc, not-suc-le-zero, zero-add}
use native.Mathlib.Omega.{arith}
use lib.IntN.{ℤ, pos, neg_ℤ}
use lib.ListN.{length, get_or}
use mathlib.Core.List.{List, [], ◌∷◌, map}
use mathlib.Core.Path.{◌≡◌, refl, sym, ap, ◌∙◌}
use Rattle.laws.specs.Divisions.{no_face, DividesAtEach, with_bottom, with_top, all_upward}
use Rattle.numbers.proofs.Quotients.{cut_divides}
use Rattle.quantities.specs.declared.Face.{Face}
use Rattle.quantities.specs.declared.Face.TheVariants.{Closed, Drained}
use Rattle.rules.specs.Division.{inner_face, outer_faces, faces_above, open_faces, flow_at, remainder_at}
use Rattle.rules.specs.Layer.{Element}
use Rattle.rules.specs.Record.{face_number}
use Rattle.rules.specs.Step.{upward, outward, flows_above, upward_flows}
use Rattle.rules.specs.declared.faces.OpenFace.{OpenFace}

-- ---- how many

pub outer_count : (face : Face) (e : Element) → length (outer_faces face e) ≡ face_number face
unfolding outer_faces face_number
outer_count Closed e = refl
outer_count (Drained held) e = refl

above_count : (top : Face) (e : Element) (rest : List Element) → length (faces_above top (e ∷ rest)) ≡ length rest + face_number top
unfolding faces_above
above_count top e [] = outer_count top e ∙ sym (zero-add (face_number top))
above_count top e (f ∷ rest) = let ih = above_count top f rest in omega (arith, ih)

pub open_count : (top bottom : Face) (e : Element) (rest : List Element) →
    length (open_faces top bottom (e ∷ rest)) ≡ length rest + face_number top + face_number bottom
unfolding open_faces outer_faces face_number
open_count top Closed e rest = omega (arith, above_count top e rest)
open_count top (Drained held) e rest = omega (arith, above_count top e rest)

-- ---- by number

module _ (top : Face) (d : OpenFace) (none : Element) where
  -- above the bottom: between two elements, and the top
  pub inner_at : (es : List Element) (j : ℕ) → suc j < length es →
      get_or (faces_above top es) j d ≡ inner_face (get_or es j none) (get_or es (suc j) none)
  unfolding faces_above
  inner_at [] j h = absurd (omega arith)
  inner_at (e ∷ []) j h = absurd (omega arith)
  inner_at (e ∷ f ∷ rest) zero h = refl
  inner_at (e ∷ f ∷ rest) (suc j) h = inner_at (f ∷ rest) j (le_of_suc-le-suc h)

  pub top_at : (es : List Element) (j : ℕ) → suc j ≡ length es → get_or (faces_above top es) j d ≡ get_or (outer_faces top (get_or es j none)) 0 d
  unfolding faces_above
  top_at [] j h = absurd (omega arith)
  top_at (e ∷ []) zero h = refl
  top_at (e ∷ []) (suc j) h = absurd (omega arith)
  top_at (e ∷ f ∷ rest) zero h = absurd (omega arith)
  top_at (e ∷ f ∷ rest) (suc j) h = top_at (f ∷ rest) j (omega arith)

module _ (top : Face) (d : OpenFace) (e : Element) (rest : List Element) where
  -- the bottom
  pub bottom_at : (bottom : Face) (k : ℕ) → k < face_number bottom → get_or (open_faces top bottom (e ∷ rest)) k d ≡ get_or (outer_faces bottom e) 0 d
  unfolding open_faces outer_faces face_number
  bottom_at Closed k h = absurd (not-suc-le-zero h)
  bottom_at (Drained held) zero h = refl
  bottom_at (Drained held) (suc k) h = absurd (omega arith)

  -- what is above it
  pub above_at : (bottom : Face) (j : ℕ) → get_or (open_faces top bottom (e ∷ rest)) (face_number bottom + j) d ≡ get_or (faces_above top (e ∷ rest)) j d
  unfolding open_faces outer_faces face_number
  above_at Closed j = rw (zero-add j) refl
  above_at (Drained held) j = let more : 1 + j ≡ suc j = omega arith in rw more refl

-- ---- the division at each

get_or-map : {A B : Type 0} (f : A → B) (l : List A) (k : ℕ) (a : A) (b : B) → k < length l → get_or (map f l) k b ≡ f (get_or l k a)
get_or-map f [] k a b h = absurd (not-suc-le-zero h)
get_or-map f (x ∷ l) zero a b h = refl
get_or-map f (x ∷ l) (suc k) a b h = get_or-map f l k a b (le_of_suc-le-suc h)

pub divides_at_each : (t : ℕ) (faces : List OpenFace) → ((k : ℕ) → k < length faces → 0 < (get_or faces k no_face).resistance) →
    DividesAtEach t faces (map (flow_at t) faces) (map (remainder_at t) faces)
divides_at_each t faces resists k h =
    rw (get_or-map (flow_at t) faces k no_face (pos 0) h, get_or-map (remainder_at t) faces k no_face (pos 0) h) (cut_divides _ _ (resists k h))

-- ---- a step takes these flows

top_more : (top : Face) (z : ℤ) (flows : List ℤ) → with_top top (z ∷ flows) ≡ z ∷ with_top top flows
unfolding with_top
top_more Closed z flows = refl
top_more (Drained held) z flows = refl

outer_takes : (top : Face) (t : ℕ) (e : Element) → outward top t e ∷ [] ≡ with_top top (map (flow_at t) (outer_faces top e))
unfolding with_top outer_faces outward
outer_takes Closed t e = refl
outer_takes (Drained held) t e = refl

module _ (top : Face) (t : ℕ) where
  above_takes : (e : Element) (rest : List Element) →
      flows_above top t (e ∷ rest) ≡ with_top top (map (flow_at t) (faces_above top (e ∷ rest)))
  unfolding flows_above faces_above upward inner_face
  above_takes e [] = outer_takes top t e
  above_takes e (f ∷ rest) =
      ap (λ (l : List ℤ). upward t e f ∷ l) (above_takes f rest) ∙
      sym (top_more top (upward t e f) (map (flow_at t) (faces_above top (f ∷ rest))))

  step_takes : (bottom : Face) (e : Element) (rest : List Element) →
      upward_flows top bottom t (e ∷ rest) ≡ all_upward top bottom (map (flow_at t) (open_faces top bottom (e ∷ rest)))
  unfolding upward_flows open_faces all_upward with_bottom outer_faces outward
  step_takes Closed e rest = ap (λ (l : List ℤ). pos 0 ∷ l) (above_takes e rest)
  step_takes (Drained held) e rest =
      let out = outward (Drained held) t e in
      ap (λ (l : List ℤ). neg_ℤ out ∷ l) (above_takes e rest) ∙
      ap (with_bottom (Drained held)) (sym (top_more top out (map (flow_at t) (faces_above top (e ∷ rest)))))

  pub any_step_takes : (bottom : Face) (es : List Element) → 0 < length es →
      upward_flows top bottom t es ≡ all_upward top bottom (map (flow_at t) (open_faces top bottom es))
  any_step_takes bottom [] h = absurd (not-suc-le-zero h)
  any_step_takes bottom (e ∷ rest) h = step_takes bottom e rest
