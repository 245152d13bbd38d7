-- Elements as arrays of their excess pressures, resistances and sensitivities hold them.
use Rattle.std.specs.Prelude.{ℕ, ◌≤◌, ◌<◌, ℤ, pos, ◌-ℤ◌, ◌*ℤ◌, get_or, List, [], ◌≡◌}
use Rattle.numbers.specs.Arrays.{tabulate}
use Rattle.numbers.specs.Interval.{Within}
use Rattle.numbers.specs.Quotients.{Cut}
use Rattle.rules.specs.Layer.{Element}
use Rattle.rules.specs.Step.{flows_above}
use Rattle.quantities.specs.declared.Face.{Face}
use Rattle.quantities.specs.declared.Face.TheVariants.{Closed, Drained}
use Rattle.laws.specs.Most.{most_excess, most_resistance}

abbrev pub element_of : (excess : ℤ) (resistance sensitivity : ℕ) → Element
element_of excess resistance sensitivity = record { excess = excess; resistance = resistance; sensitivity = sensitivity }

abbrev pub element_in : (excess : List ℤ) (resistance sensitivity : List ℕ) → ℕ → Element
element_in excess resistance sensitivity j = element_of (get_or excess j (pos 0)) (get_or resistance j 0) (get_or sensitivity j 0)

-- the first elements of the arrays
unfoldable pub elements_in : ℕ → (excess : List ℤ) (resistance sensitivity : List ℕ) → List Element
unfolding tabulate
elements_in elements excess resistance sensitivity = tabulate elements (element_in excess resistance sensitivity)

-- what a step needs of the arrays: no pressure and no resistance is out of range
pub record Readable (elements : ℕ) (excess : List ℤ) (resistance : List ℕ) : Type 0 where
  pub excess_within : (j : ℕ) → j < elements → Within (get_or excess j (pos 0)) most_excess
  pub resistance_positive : (j : ℕ) → j < elements → 0 < get_or resistance j 0
  pub resistance_most : (j : ℕ) → j < elements → get_or resistance j 0 ≤ most_resistance

-- up through the upper face of element j
unfoldable pub flow_above : (top : Face) (t elements : ℕ) (excess : List ℤ) (resistance : List ℕ) → ℕ → ℤ
unfolding flows_above elements_in
flow_above top t elements excess resistance j = get_or (flows_above top t (elements_in elements excess resistance [])) j (pos 0)

-- a flow out through an outer face: nothing if it is closed, otherwise a quotient by the law of quotient and remainder
unfoldable pub OutwardCut : Face → (excess : ℤ) (t resistance : ℕ) → ℤ → Type 0
OutwardCut Closed excess t resistance q = q ≡ pos 0
OutwardCut (Drained held) excess t resistance q = Cut ((excess -ℤ held.0) *ℤ pos t) resistance q
