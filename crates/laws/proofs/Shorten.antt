-- The longest step by a quotient for each contact, divided only where the step is still too long for it.
use Prim.Native.Nat.{ℕ, ◌*◌, ◌≤◌, ◌<◌, min, max}
use native.Mathlib.Nat.{le_refl, le_antisymm, mul-le-mul_left, mul-le-mul_right, div-lt_iff_lt-mul, div-mul-le_self}
use native.Mathlib.Omega.{arith}
use lib.Dec.{T, leb, ltb, ltb→lt, nltb→le, leb→le, nleb→lt}
use mathlib.Core.Bool.{Bool, true, false, not, cond}
use mathlib.Core.List.{List, [], ◌∷◌, ◌++◌}
use mathlib.Core.Logic.{◌↔◌}
use mathlib.Core.Path.{◌≡◌, refl, ap}
use Rattle.numbers.specs.Rounding.{floor}
use Rattle.numbers.proofs.Division.{le_floor}
use Rattle.numbers.specs.Lists.{any, greatest}
use Rattle.numbers.proofs.Searches.{by_test}
use Rattle.rules.specs.Layer.{Site, State, Element, read_elements}
use Rattle.rules.specs.Step.{Contact, inner_resistance, contacts_above, contacts, site_steepness, too_long_at, too_long}
use Rattle.rules.specs.Run.{longest_reach, longest_step}
use Rattle.quantities.specs.declared.Face.{Face}
use Rattle.laws.specs.Every.{Every}
use Rattle.laws.proofs.Contacts.{ShortFor, Limiting, short_floor, short_enough, shorter, nothing_short, layer_limiting}
use Rattle.laws.proofs.Longest.{greatest_is}
use Rattle.laws.specs.Shorten.{shortened}

-- ---- one contact

module _ (R d : ℕ) (h : 0 < d) (t : ℕ) where
  -- a step that is too long is shortened to the quotient
  pub divided : R < d * t → floor R d ≡ min t (floor R d)
  divided k = let below : floor R d < t = (div-lt_iff_lt-mul h).1 (omega arith) in omega arith

  -- a step that is not too long stays
  pub undivided : d * t ≤ R → t ≡ min t (floor R d)
  undivided k = let reached : t ≤ floor R d = (le_floor h t R).1 (omega arith) in omega arith

  -- so a division where the step is too long, and none elsewhere, gives the lesser of step and quotient
  pub divided_once : cond (ltb R (d * t)) (floor R d) t ≡ min t (floor R d)
  divided_once =
      by_test (ltb R (d * t)) (λ b. cond b (floor R d) t ≡ min t (floor R d))
      (λ s. divided (ltb→lt R (d * t) s))
      (λ s. undivided (nltb→le R (d * t) s))

-- ---- all contacts

-- for two lists of contacts, one after the other
pub shortened-append : (K most : ℕ) (l m : List Contact) → shortened K most (l ++ m) ≡ shortened K (shortened K most l) m
unfolding shortened
shortened-append K most [] m = refl
shortened-append K most (c ∷ rest) m = shortened-append K (min most (floor c.face_resistance (2 * c.sensitivity * K))) rest m

-- a step is no longer than the shortened just where it is no longer than the given one and short enough for every contact
pub le_shortened : (K most : ℕ) (cs : List Contact) → Every (Limiting K) cs → (t : ℕ) →
    (t ≤ shortened K most cs) ↔ ((t ≤ most) × Every (ShortFor K t) cs)
unfolding shortened Every
le_shortened K most [] p t = (λ h. (h, tt), λ h. h.0)
le_shortened K most (c ∷ rest) p t =
    let ih = le_shortened K (min most (floor c.face_resistance (2 * c.sensitivity * K))) rest p.1 t in
    let q = short_floor K t c p.0 in (
      (λ h. let (l, more) = ih.0 h in (omega arith, (q.1 (omega arith), more))),
      λ h. let l = q.0 h.1.0 in ih.1 (omega arith, h.1.1),
    )

-- the greatest step that is too long for no contact is the shortened one
pub greatest-shortened : (K most : ℕ) (cs : List Contact) → Every (Limiting K) cs →
    greatest most (λ t. not (any (too_long_at K t) cs)) ≡ shortened K most cs
greatest-shortened K most cs p =
    let test : ℕ → Bool = λ t. not (any (too_long_at K t) cs) in
    let g = greatest most test in
    let u = shortened K most cs in
    let of-greatest = greatest_is test (nothing_short K cs) (shorter K cs) most in
    let of-shortened = le_shortened K most cs p in
    let (reach, short) = (of-greatest g).0 (le_refl g) in
    let (reach', short') = (of-shortened u).0 (le_refl u) in
    le_antisymm ((of-shortened g).1 (reach, (short_enough K cs g).0 short)) ((of-greatest u).1 (reach', (short_enough K cs u).1 short'))

-- a test that passed did not fail
not_both : (b : Bool) → T b → T (not b) → ⊥
not_both true s k = k
not_both false s k = s

-- a step is too long just where the shortened one is shorter
pub too_long-shortened : (K t : ℕ) (cs : List Contact) → Every (Limiting K) cs → ltb (shortened K t cs) t ≡ any (too_long_at K t) cs
too_long-shortened K t cs p =
    let reached = le_shortened K t cs p t in
    let enough = short_enough K cs t in
    by_test (ltb (shortened K t cs) t) (λ b. b ≡ any (too_long_at K t) cs)
    (λ s.
    by_test (any (too_long_at K t) cs) (λ b. true ≡ b) (λ _. refl)
    (λ k. let short = reached.1 (le_refl t, enough.0 k) in absurd (omega (arith, ltb→lt (shortened K t cs) t s))))
    (λ s.
    by_test (any (too_long_at K t) cs) (λ b. false ≡ b)
    (λ k. absurd (not_both (any (too_long_at K t) cs) k (enough.1 (reached.0 (nltb→le (shortened K t cs) t s)).1)))
    (λ _. refl))

-- ---- two contacts with one face

-- a greater divisor has no greater quotient
floor_falls : (R b d : ℕ) → 0 < b → b ≤ d → floor R d ≤ floor R b
floor_falls R b d p h = (le_floor p (floor R d) R).1 (omega (arith, mul-le-mul_left (floor R d) h, div-mul-le_self R d))

-- two contacts with one face shorten a step like one with the greater sensitivity
pub greater_sensitivity : (R K c c' : ℕ) → 0 < 2 * c * K → 0 < 2 * c' * K →
    min (floor R (2 * c * K)) (floor R (2 * c' * K)) ≡ floor R (2 * max c c' * K)
greater_sensitivity R K c c' p p' =
    by_test (leb c c') (λ _. min (floor R (2 * c * K)) (floor R (2 * c' * K)) ≡ floor R (2 * max c c' * K))
    (λ s.
    let h : max c c' ≡ c' = omega (arith, leb→le c c' s) in
    rw h (omega (arith, floor_falls R (2 * c * K) (2 * c' * K) p (mul-le-mul_right K (omega arith)))))
    (λ s.
    let h : max c c' ≡ c = omega (arith, nleb→lt c c' s) in
    rw h (omega (arith, floor_falls R (2 * c' * K) (2 * c * K) p' (mul-le-mul_right K (omega arith)))))

-- so one quotient serves both contacts with an inner face
pub inner_shortened : (K most : ℕ) (top : Face) (e f : Element) (rest : List Element) →
    0 < 2 * e.sensitivity * K → 0 < 2 * f.sensitivity * K →
    shortened K most (contacts_above top (e ∷ f ∷ rest)) ≡
    shortened K (min most (floor (inner_resistance e f) (2 * max e.sensitivity f.sensitivity * K))) (contacts_above top (f ∷ rest))
unfolding shortened contacts_above
inner_shortened K most top e f rest p p' =
    let g = greater_sensitivity (inner_resistance e f) K e.sensitivity f.sensitivity p p' in
    ap (λ (t : ℕ). shortened K t (contacts_above top (f ∷ rest))) (omega arith)

-- ---- a run

-- the longest step of a run is the reach, shortened for each contact of the layer
pub longest-shortened : (site : Site) (end : ℕ) (s : State) → 0 < site_steepness site → Every (λ S. 0 < S) site.solids →
    longest_step site end s ≡
    shortened (site_steepness site) (longest_reach site end s.clock) (contacts site.top site.bottom (read_elements site s))
unfolding longest_step too_long
longest-shortened site end s k solid =
    greatest-shortened (site_steepness site) (longest_reach site end s.clock) (contacts site.top site.bottom (read_elements site s))
    (layer_limiting site s k solid)
