-- A step is not too long just where it is short enough for every contact of an element with a face.
use Prim.Native.Nat.{ℕ, ◌*◌, ◌≤◌, ◌<◌}
use native.Mathlib.Nat.{le_trans, mul-le-mul_left, mul-pos}
use native.Mathlib.Omega.{arith}
use lib.Dec.{T, ltb, nltb→le}
use lib.IntN.{ℤ}
use borrow.Author.Tests.{le-ltb}
use mathlib.Core.Bool.{not}
use mathlib.Core.List.{List, [], ◌∷◌}
use mathlib.Core.Logic.{◌↔◌}
use Rattle.numbers.specs.Lists.{any}
use Rattle.numbers.specs.Rounding.{floor}
use Rattle.numbers.proofs.Division.{le_floor}
use Rattle.rules.specs.Layer.{Site, State, Element, sensitivity, burdens, element, elements_from, read_elements}
use Rattle.rules.specs.Step.{Contact, outer_contacts, contacts_above, contacts, site_steepness, too_long_at, too_long}
use Rattle.quantities.specs.declared.Face.{Face}
use Rattle.quantities.specs.declared.Face.TheVariants.{Closed, Drained}
use Rattle.laws.specs.Every.{Every}
use Rattle.laws.proofs.Every.{every_of, every_none, every_map, every_append}
use Rattle.laws.proofs.VoidRatio.{sensitivity_pos}

-- t seconds are short enough for a contact, where the stress falls by at most K for each unit of void ratio
abbrev pub ShortFor : (K t : ℕ) → Contact → Type 0
ShortFor K t c = 2 * c.sensitivity * K * t ≤ c.face_resistance

-- a contact limits the step: not all seconds are short enough for it
abbrev pub Limiting : (K : ℕ) → Contact → Type 0
Limiting K c = 0 < 2 * c.sensitivity * K

-- the seconds that are short enough for a contact that limits the step are those up to a quotient
pub short_floor : (K t : ℕ) (c : Contact) → Limiting K c →
    ShortFor K t c ↔ (t ≤ floor c.face_resistance (2 * c.sensitivity * K))
short_floor K t c h =
    let q = le_floor h t c.face_resistance in
    (λ k. q.1 (omega arith), λ k. omega (arith, q.0 k))

-- a test m < n fails just where n ≤ m
not_less : (m n : ℕ) → T (not (ltb m n)) ↔ (n ≤ m)
not_less m n = (nltb→le m n, λ h. rw (le-ltb m n h) tt)

module _ (K : ℕ) (cs : List Contact) where
  -- a step is too long for no contact just where it is short enough for every one
  pub short_enough : (t : ℕ) → T (not (any (too_long_at K t) cs)) ↔ Every (ShortFor K t) cs
  unfolding too_long_at
  short_enough t =
      let less : (c : Contact) → T (not (too_long_at K t c)) ↔ ShortFor K t c = λ c. not_less c.face_resistance _ in
      let none = every_none (too_long_at K t) cs in (
        (λ h. every_map _ _ (λ c. (less c).0) cs (none.0 h)),
        λ h. none.1 (every_map _ _ (λ c. (less c).1) cs h),
      )

  -- a shorter step is too long for none where a longer one is too long for none
  pub shorter : (t u : ℕ) → t ≤ u → T (not (any (too_long_at K u) cs)) → T (not (any (too_long_at K t) cs))
  shorter t u h k =
      (short_enough t).1
      (every_map (ShortFor K u) (ShortFor K t) (λ c l. le_trans (mul-le-mul_left (2 * c.sensitivity * K) h) l) cs ((short_enough u).0 k))

  -- a step of 0 seconds is too long for none
  pub nothing_short : T (not (any (too_long_at K 0) cs))
  nothing_short = (short_enough 0).1 (every_of (ShortFor K 0) (λ c. omega arith) cs)

-- ---- sensitivities

module _ (P : ℕ → Type 0) where
  -- what holds of an element's sensitivity holds of that of its contact with an outer face
  every_outer : (face : Face) (e : Element) → P e.sensitivity → Every (λ c. P c.sensitivity) (outer_contacts face e)
  unfolding Every outer_contacts
  every_outer Closed e h = tt
  every_outer (Drained held) e h = (h, tt)

  -- and so of every contact with a face above
  every_above : (top : Face) (es : List Element) → Every (λ e. P e.sensitivity) es →
      Every (λ c. P c.sensitivity) (contacts_above top es)
  unfolding Every contacts_above
  every_above top [] h = tt
  every_above top (e ∷ []) h = every_outer top e h.0
  every_above top (e ∷ f ∷ rest) h = (h.0, (h.1.0, every_above top (f ∷ rest) h.1))

  -- what holds of the sensitivity of every element holds of that of every contact
  pub every_contact : (top bottom : Face) (es : List Element) → Every (λ e. P e.sensitivity) es →
      Every (λ c. P c.sensitivity) (contacts top bottom es)
  unfolding Every contacts
  every_contact top bottom [] h = tt
  every_contact top bottom (e ∷ rest) h =
      (every_append (λ c. P c.sensitivity) (outer_contacts bottom e) (contacts_above top (e ∷ rest))).1
      (every_outer bottom e h.0, every_above top (e ∷ rest) h)

  -- what holds of the sensitivity of all solids heights but 0 holds of that of every element
  pub every_sensitivity : ((S : ℕ) → 0 < S → P (sensitivity S)) → (site : Site) (load : ℤ) (Bs Ss Ws : List ℕ) →
      Every (λ S. 0 < S) Ss → Every (λ e. P e.sensitivity) (elements_from site load Bs Ss Ws)
  unfolding Every elements_from element
  every_sensitivity f site load [] Ss Ws h = tt
  every_sensitivity f site load (B ∷ Bs) [] Ws h = tt
  every_sensitivity f site load (B ∷ Bs) (S ∷ Ss) [] h = tt
  every_sensitivity f site load (B ∷ Bs) (S ∷ Ss) (W ∷ Ws) h = (f S h.0, every_sensitivity f site load Bs Ss Ws h.1)

-- ---- a site and a state

module _ (site : Site) (s : State) where
  -- the contacts of the layer
  abbrev layer : List Contact
  layer = contacts site.top site.bottom (read_elements site s)

  -- a step is not too long just where it is short enough for every contact of the layer
  pub step_short_enough : (t : ℕ) → T (not (too_long site s t)) ↔ Every (ShortFor (site_steepness site) t) layer
  unfolding too_long
  step_short_enough = short_enough (site_steepness site) layer

  -- a shorter step is not too long where a longer one isn't
  pub step_shorter : (t u : ℕ) → t ≤ u → T (not (too_long site s u)) → T (not (too_long site s t))
  unfolding too_long
  step_shorter = shorter (site_steepness site) layer

  -- no step of 0 seconds is too long
  pub no_step_short : T (not (too_long site s 0))
  unfolding too_long
  no_step_short = nothing_short (site_steepness site) layer

  -- every contact of the layer limits the step, where neither the slope nor a solids height is 0
  pub layer_limiting : 0 < site_steepness site → Every (λ S. 0 < S) site.solids → Every (Limiting (site_steepness site)) layer
  unfolding read_elements
  layer_limiting k solid =
      every_contact (λ c. 0 < 2 * c * site_steepness site) site.top site.bottom (read_elements site s)
      (every_sensitivity (λ c. 0 < 2 * c * site_steepness site) (λ S h. mul-pos (mul-pos (omega arith) (sensitivity_pos S h)) k)
      site s.load (burdens site.gravity site.solids) site.solids s.water solid)
