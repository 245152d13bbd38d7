-- What term 3 speaks of: the pressures between which every excess pressure stays, and what keeps a step from lowering an outflow.
use Rattle.std.specs.Prelude.{ℤ, pos, ◌+ℤ◌, ◌-ℤ◌, ◌≤ℤ◌, true, false, List, [], ◌∷◌, ◌++◌, ◌⊎◌, ◌≡◌}
use Rattle.std.specs.Int.Signed.{le_z}
use Rattle.rules.specs.Layer.{Site, State}
use Rattle.rules.specs.Tally.{Tally, excesses, StepTrace}
use Rattle.quantities.specs.declared.Face.{Face}
use Rattle.quantities.specs.declared.Face.TheVariants.{Closed, Drained}

-- what a drained face holds; a closed one holds none
unfoldable pub held : Face → List ℤ
held Closed = []
held (Drained pressure) = pressure.0 ∷ []

-- the excess pressures of a state and the drained faces' values
unfoldable pub pressures : Site → State → List ℤ
unfolding excesses held
pressures site s = excesses site s ++ held site.top ++ held site.bottom

-- the least of some numbers, and the greatest; 0 of none
unfoldable pub lowest : List ℤ → ℤ
lowest [] = pos 0
lowest (z ∷ []) = z
lowest (z ∷ y ∷ rest) = let least = lowest (y ∷ rest) in elim (le_z z least) [ true ↦ z | false ↦ least ]

unfoldable pub highest : List ℤ → ℤ
highest [] = pos 0
highest (z ∷ []) = z
highest (z ∷ y ∷ rest) = let most = highest (y ∷ rest) in elim (le_z z most) [ true ↦ most | false ↦ z ]

-- the least that an excess pressure can be, after all falls of load since a first tally, and the greatest, after all rises
abbrev pub least_excess : Site → (first later : Tally) → ℤ
least_excess site first later = lowest (pressures site first.state) -ℤ pos later.falls

abbrev pub greatest_excess : Site → (first later : Tally) → ℤ
greatest_excess site first later = highest (pressures site first.state) +ℤ pos later.rises

-- the load never fell
abbrev pub NeverFell : Tally → Type 0
NeverFell y = y.falls ≡ 0

-- a pressure is not negative
abbrev pub NotNegative : ℤ → Type 0
NotNegative p = pos 0 ≤ℤ p

-- the bottom is closed, or at the top's level
abbrev pub NoHeadBelow : Site → Type 0
NoHeadBelow site = (site.bottom ≡ Closed) ⊎ (site.bottom_level ≡ site.top_level)

-- a step lowered neither outflow
abbrev pub NotLowered : StepTrace → Type 0
NotLowered step =
    (step.before.top_outflow ≤ℤ step.later.top_outflow) × (step.before.bottom_outflow ≤ℤ step.later.bottom_outflow)
