-- The layer: what a job fixes for good, what calls change, and what is read of an element.
use Rattle.std.specs.Prelude.{ℕ, ◌+◌, ◌-◌, ◌*◌, ℤ, pos, ◌+ℤ◌, ◌-ℤ◌, List, [], ◌∷◌, map}
use Rattle.numbers.specs.Lists.{tripled}
use Rattle.numbers.specs.Rounding.{floor, ceil}
use Rattle.numbers.specs.Sums.{sum}
use Rattle.quantities.specs.Quantities.{void_unit, head, pressure, pressure_of}
use Rattle.rules.specs.Curve.{Point, curve_at, value_of}
use Rattle.quantities.specs.Quantities.{CurveValue}
use Rattle.quantities.specs.declared.Face.{Face}
use Rattle.quantities.specs.declared.Pressure.{Pressure}

-- What a job fixes for good. Elements are listed from the lowest up.
pub record Site : Type 0 where
  pub solids : List ℕ
  pub compressibility : List Point
  pub conductivity : List Point
  pub load_table : List Point
  pub top : Face
  pub bottom : Face
  pub gravity : ℕ
  pub top_level : ℤ
  pub bottom_level : ℤ

-- What calls change.
pub record State : Type 0 where
  pub water : List ℕ
  pub load : ℤ
  pub clock : ℕ
  pub top_outflow : ℤ
  pub bottom_outflow : ℤ

-- The soil's skeleton, which carries the effective stress: what the stress of an element is read from, beside its solids
-- and its water.
pub record Skeleton : Type 0 where
  pub compressibility : List Point

abbrev pub skeleton_of : (compressibility : List Point) → Skeleton
skeleton_of compressibility = record { compressibility = compressibility }

abbrev pub skeleton : Site → Skeleton
skeleton site = skeleton_of site.compressibility

-- what a drained top holds
unfoldable pub top_pressure : Pressure
top_pressure = pressure (pos 0)

-- P, what a drained bottom holds: the pressure of the head between the two levels
unfoldable pub bottom_pressure : (top_level bottom_level : ℤ) → Pressure
unfolding pressure_of
bottom_pressure top_level bottom_level = pressure_of (head (bottom_level -ℤ top_level))

-- L, of an element with solids height S and water height W
abbrev pub height : (S W : ℕ) → ℕ
height S W = S + W

-- E
unfoldable pub void_ratio : (S W : ℕ) → ℕ
void_ratio S W = floor (W * void_unit) S

-- an element is on the curve where this gives a value
unfoldable pub effective_stress : Skeleton → (S W : ℕ) → CurveValue
unfolding curve_at void_ratio
effective_stress soil S W = curve_at soil.compressibility (void_ratio S W)

-- k
unfoldable pub hydraulic_conductivity : (conductivity : List Point) (S W : ℕ) → CurveValue
unfolding curve_at void_ratio
hydraulic_conductivity conductivity S W = curve_at conductivity (void_ratio S W)

-- b, with specific gravity g in thousandths
unfoldable pub buoyant_weight : (g S : ℕ) → ℕ
buoyant_weight g S = floor (S * (g - 1_000) * 9_810) 1_000_000_000

-- B: the weight of all elements above and half the element's own
unfoldable pub burden : (g S : ℕ) (above : List ℕ) → ℕ
unfolding buoyant_weight sum
burden g S above = sum (map (buoyant_weight g) above) + floor (buoyant_weight g S) 2

-- B of every element
unfoldable pub burdens : (g : ℕ) (solids : List ℕ) → List ℕ
unfolding burden
burdens g [] = []
burdens g (S ∷ above) = burden g S above ∷ burdens g above

-- p, under an effective stress
abbrev pub excess_under : (load : ℤ) (B stress : ℕ) → ℤ
excess_under load B stress = load +ℤ pos B -ℤ pos stress

-- p
unfoldable pub excess_pressure : Skeleton → (load : ℤ) (B S W : ℕ) → ℤ
unfolding effective_stress value_of
excess_pressure soil load B S W = excess_under load B (value_of (effective_stress soil S W))

-- r, from an element's middle to its face, with conductivity k
abbrev pub resistance_with : (S W k : ℕ) → ℕ
resistance_with S W k = ceil (4_905 * height S W) k

-- r
unfoldable pub resistance : (conductivity : List Point) (S W : ℕ) → ℕ
unfolding hydraulic_conductivity value_of ceil
resistance conductivity S W = resistance_with S W (value_of (hydraulic_conductivity conductivity S W))

-- c, the most by which a nanometre of water moves the void ratio
unfoldable pub sensitivity : (S : ℕ) → ℕ
unfolding ceil
sensitivity S = ceil void_unit S

-- an element as a step reads it
pub record Element : Type 0 where
  pub excess : ℤ
  pub resistance : ℕ
  pub sensitivity : ℕ

unfoldable pub element : Site → (load : ℤ) (B S W : ℕ) → Element
unfolding excess_pressure resistance sensitivity
element site load B S W = record {
  excess = excess_pressure (skeleton site) load B S W;
  resistance = resistance site.conductivity S W;
  sensitivity = sensitivity S;
}

unfoldable pub elements_from : Site → (load : ℤ) (Bs Ss Ws : List ℕ) → List Element
unfolding element tripled
elements_from site load Bs Ss Ws = tripled (element site load) Bs Ss Ws

-- all elements of the layer
unfoldable pub read_elements : Site → State → List Element
unfolding elements_from burdens
read_elements site s = elements_from site s.load (burdens site.gravity site.solids) site.solids s.water
