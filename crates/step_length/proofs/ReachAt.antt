-- Laws of the longest step by index.
use Prim.Native.Nat.{ℕ, ◌+◌, ◌*◌, ◌≤◌, ◌<◌, min, max}
use native.Mathlib.Nat.{mul-le-mul, mul-pos}
use native.Mathlib.Omega.{arith}
use lib.Dec.{ltb}
use lib.IntN.{pos}
use lib.ListN.{get_or, drop}
use mathlib.Core.List.{List, [], ◌∷◌}
use mathlib.Core.Path.{◌≡◌, sym, ap, ◌∙◌}
use Rattle.laws.proofs.Contacts.{Limiting, every_contact}
use Rattle.laws.specs.Every.{Every}
use Rattle.laws.proofs.Every.{every_tabulate}
use Rattle.laws.specs.Most.{most_sensitivity, most_divisor}
use Rattle.laws.specs.Shorten.{shortened}
use Rattle.laws.proofs.Shorten.{shortened-append, greatest-shortened, too_long-shortened, inner_shortened}
use Rattle.element.specs.Elements.{element_of, element_in, elements_in}
use Rattle.step_length.specs.Reach.{Limited, touching, is_too_long, longest_within}
use Rattle.numbers.proofs.Filled.{drop-tabulate, drop-tabulate_end}
use Rattle.numbers.specs.Rounding.{floor}
use Rattle.rules.specs.Layer.{Element}
use Rattle.quantities.specs.Quantities.{stress_limits}
use Rattle.rules.specs.Step.{inner_resistance, outer_contacts, contacts_above, contacts}
use Rattle.quantities.specs.declared.Face.{Face}

-- what a resistance is divided by is positive and fits
pub divisor_range : (c K : ℕ) → 0 < c → c ≤ most_sensitivity → 0 < K → K ≤ stress_limits.most →
    (0 < 2 * c * K) × (2 * c * K ≤ most_divisor)
divisor_range c K p h q k =
    (mul-pos (omega arith) q, mul-le-mul {n₁ = 2 * c} {m₁ = K} {n₂ = 2 * most_sensitivity} {m₂ = stress_limits.most} (omega arith) k)

module _ (top : Face) (K : ℕ) (steepness : 0 < K) (n : ℕ) (resistance sensitivity : List ℕ) (limited : Limited n resistance sensitivity) where
  abbrev es : List Element
  es = elements_in n [] resistance sensitivity

  abbrev r : ℕ → ℕ
  r j = get_or resistance j 0

  abbrev c : ℕ → ℕ
  c j = get_or sensitivity j 0

  divides : (j : ℕ) → j < n → 0 < 2 * c j * K
  divides j h = mul-pos (mul-pos (omega arith) (limited.sensitivity_positive j h)) steepness

  module _ (bottom : Face) where
    limiting : Every (Limiting K) (touching top bottom n resistance sensitivity)
    unfolding elements_in
    limiting = every_contact (λ c. 0 < 2 * c * K) top bottom es (every_tabulate (λ e. 0 < 2 * e.sensitivity * K) n (element_in [] resistance sensitivity) divides)

    -- the longest step is the given one, shortened for each contact
    pub longest_is : (most : ℕ) → longest_within top bottom K n resistance sensitivity most ≡ shortened K most (contacts top bottom es)
    unfolding longest_within is_too_long
    longest_is most = greatest-shortened K most (contacts top bottom es) limiting

    -- a step is too long just where the longest within it is shorter
    pub too_long_is : (t : ℕ) → ltb (longest_within top bottom K n resistance sensitivity t) t ≡ is_too_long top bottom K n resistance sensitivity t
    unfolding is_too_long
    too_long_is t = rw (longest_is t) (too_long-shortened K t (contacts top bottom es) limiting)

    -- it is shortened first for the bottom
    pub begins : 0 < n → (most : ℕ) →
        shortened K (shortened K most (outer_contacts bottom (element_of (pos 0) (r 0) (c 0)))) (contacts_above top (drop 0 es)) ≡
        longest_within top bottom K n resistance sensitivity most
    unfolding elements_in contacts
    begins h most =
        rw (
          longest_is most,
          drop-tabulate n (element_in [] resistance sensitivity) 0 h,
          shortened-append K most (outer_contacts bottom (element_in [] resistance sensitivity 0)) (contacts_above top (element_in [] resistance sensitivity 0 ∷ drop 1 es)),
        )

  -- then for each inner face
  pub at_inner : (j t : ℕ) → j + 1 < n →
      shortened K t (contacts_above top (drop j es)) ≡
      shortened K (min t (floor (r j + r (j + 1)) (2 * max (c j) (c (j + 1)) * K))) (contacts_above top (drop (j + 1) es))
  unfolding elements_in inner_resistance
  at_inner j t h =
      let f = element_in [] resistance sensitivity in
      let further = drop-tabulate n f (j + 1) h in
      ap (λ (l : List Element). shortened K t (contacts_above top l))
      (drop-tabulate n f j (omega arith) ∙ ap (λ (l : List Element). f j ∷ l) further) ∙
      inner_shortened K t top (f j) (f (j + 1)) (drop (j + 1 + 1) es) (divides j (omega arith)) (divides (j + 1) h) ∙
      ap (λ (l : List Element). shortened K (min t (floor (r j + r (j + 1)) (2 * max (c j) (c (j + 1)) * K))) (contacts_above top l)) (sym further)

  -- and last for the top
  pub at_top : (j t : ℕ) → j + 1 ≡ n →
      shortened K t (contacts_above top (drop j es)) ≡ shortened K t (outer_contacts top (element_of (pos 0) (r j) (c j)))
  unfolding elements_in contacts_above
  at_top j t h =
      let f = element_in [] resistance sensitivity in
      ap (λ (l : List Element). shortened K t (contacts_above top l))
      (drop-tabulate n f j (omega arith) ∙ ap (λ (l : List Element). f j ∷ l) (drop-tabulate_end n f (j + 1) (omega arith)))
