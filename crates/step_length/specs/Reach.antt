-- Steps that are too long, and the longest that is not, as arrays hold the elements.
use Rattle.std.specs.Prelude.{ℕ, ◌≤◌, ◌<◌, get_or, Bool, not, List, []}
use Rattle.element.specs.Elements.{elements_in}
use Rattle.laws.specs.Most.{most_resistance, most_sensitivity}
use Rattle.numbers.specs.Lists.{any, greatest}
use Rattle.rules.specs.Step.{Contact, contacts, too_long_at}
use Rattle.quantities.specs.declared.Face.{Face}

-- every element with every inner or drained face of it
abbrev pub touching : (top bottom : Face) (elements : ℕ) (resistance sensitivity : List ℕ) → List Contact
touching top bottom elements resistance sensitivity = contacts top bottom (elements_in elements [] resistance sensitivity)

unfoldable pub is_too_long : (top bottom : Face) (steepness elements : ℕ) (resistance sensitivity : List ℕ) (t : ℕ) → Bool
unfolding any too_long_at contacts elements_in
is_too_long top bottom steepness elements resistance sensitivity t = any (too_long_at steepness t) (touching top bottom elements resistance sensitivity)

unfoldable pub longest_within : (top bottom : Face) (steepness elements : ℕ) (resistance sensitivity : List ℕ) (most : ℕ) → ℕ
unfolding greatest is_too_long
longest_within top bottom steepness elements resistance sensitivity most = greatest most (λ t. not (is_too_long top bottom steepness elements resistance sensitivity t))

-- what the longest step needs: no resistance and no sensitivity is out of range
pub record Limited (elements : ℕ) (resistance sensitivity : List ℕ) : Type 0 where
  pub resistance_most : (j : ℕ) → j < elements → get_or resistance j 0 ≤ most_resistance
  pub sensitivity_positive : (j : ℕ) → j < elements → 0 < get_or sensitivity j 0
  pub sensitivity_most : (j : ℕ) → j < elements → get_or sensitivity j 0 ≤ most_sensitivity
