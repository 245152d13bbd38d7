-- What is read of a sound layer keeps its range: burdens, excess pressures and resistances.
use Prim.Native.Nat.{ℕ, ◌-◌, ◌*◌, ◌≤◌, ◌<◌}
use native.Mathlib.Nat.{mul-le-mul}
use native.Mathlib.Omega.{arith}
use lib.Dec.{T, T_not}
use lib.IntN.{ℤ, pos, ◌+ℤ◌, ◌-ℤ◌}
use lib.ListN.{length}
use mathlib.Core.List.{List, [], ◌∷◌, map}
use Rattle.numbers.proofs.Division.{ceil_pos, ceil_le}
use Rattle.numbers.specs.Interval.{Within}
use Rattle.numbers.proofs.Interval.{intervals}
use Rattle.numbers.proofs.Searches.{both, by_test}
use Rattle.numbers.proofs.Signed.{one_sided, add_parts, sub_parts}
use Rattle.numbers.specs.Sums.{sum}
use Rattle.rules.specs.Curve.{Point, curve_at, is_on, value_of, compressibility_sound, conductivity_sound}
use Rattle.rules.specs.Layer.{Site, State, skeleton, skeleton_of, height, void_ratio, effective_stress, hydraulic_conductivity, buoyant_weight, burden, burdens}
use Rattle.rules.specs.Layer.{excess_pressure, resistance, Element, element, elements_from, read_elements}
use Rattle.quantities.specs.Quantities.{stress_limits, solids_limits, gravity_limits, element_limits}
use Rattle.rules.specs.Step.{on_curve, all_on_curve}
use Rattle.laws.specs.Every.{Every}
use Rattle.laws.specs.Amid.{Between}
use Rattle.laws.specs.Most.{most_weight, sharp_burden, most_burden, most_excess, most_resistance}
use Rattle.laws.proofs.Rising.{off_unless_on}
use Rattle.laws.proofs.Ranges.{compressibility_ranged, conductivity_ranged, conducts}
use Rattle.laws.proofs.VoidRatio.{water_on_curve}

-- ---- burdens

module _ (g : ℕ) (light : g ≤ gravity_limits.most) where
  -- the buoyant weight of an element is at most that of the most solids with the greatest gravity
  pub weight_most : (S : ℕ) → S ≤ solids_limits.most → buoyant_weight g S ≤ most_weight
  unfolding buoyant_weight
  weight_most S h = let most : g - 1_000 ≤ 4_000 = omega arith in omega (arith, mul-le-mul h most)

  -- so many elements weigh at most so many times that
  pub weights_most : (Ss : List ℕ) → Every (λ S. S ≤ solids_limits.most) Ss → sum (map (buoyant_weight g) Ss) ≤ length Ss * most_weight
  unfolding Every sum
  weights_most [] h = omega arith
  weights_most (S ∷ Ss) h = omega (arith, weight_most S h.0, weights_most Ss h.1)

  -- the burden of each of at most 128 elements is in range
  pub burdens_most : (Ss : List ℕ) → Every (λ S. S ≤ solids_limits.most) Ss → length Ss ≤ element_limits.most → Every (λ B. B ≤ sharp_burden) (burdens g Ss)
  unfolding Every burdens burden
  burdens_most [] h k = tt
  burdens_most (S ∷ Ss) h k =
      (omega (arith, weight_most S h.0, weights_most Ss h.1), burdens_most Ss h.1 (omega arith))

-- ---- excess pressures

module _ (l : List Point) (sound : T (compressibility_sound l)) where
  -- what a sound curve gives, 0 off it, is at most the greatest stress
  pub stress_most : (x : ℕ) → value_of (curve_at l x) ≤ stress_limits.most
  unfolding value_of
  stress_most x =
      by_test (is_on (curve_at l x)) (λ _. value_of (curve_at l x) ≤ stress_limits.most)
      (λ on. (compressibility_ranged l x sound on).highest)
      (λ off. rw (off_unless_on (curve_at l x) (T_not (is_on (curve_at l x)) off)) (omega arith))

  -- the excess pressure of an element is in range
  pub excess_within : (load : ℤ) (B S W : ℕ) → Between (pos 0) (pos stress_limits.most) load → B ≤ most_burden →
      Within (excess_pressure (skeleton_of l) load B S W) most_excess
  unfolding excess_pressure effective_stress
  excess_within load B S W limits h =
      let stress = value_of (curve_at l (void_ratio S W)) in
      let all = load +ℤ pos B in
      omega (intervals, stress_most (void_ratio S W), one_sided (all -ℤ pos stress), sub_parts all (pos stress), add_parts load (pos B))

-- ---- resistances

-- a resistance keeps its range
pub record Resists (r : ℕ) : Type 0 where
  pub positive : 0 < r
  pub most : r ≤ most_resistance

module _ (l k : List Point) (sound : T (compressibility_sound l)) (sound' : T (conductivity_sound k l)) where
  -- the resistance of an element on the curve is in range
  pub resistance_ranged : (S W : ℕ) → 0 < S → S ≤ solids_limits.most → T (is_on (effective_stress (skeleton_of l) S W)) → Resists (resistance k S W)
  unfolding resistance effective_stress hydraulic_conductivity
  resistance_ranged S W solid h on =
      let kr = conductivity_ranged k l (void_ratio S W) sound' (conducts k l (void_ratio S W) sound sound' on) in
      let w = water_on_curve S solid l W h sound on in
      record {
        positive = ceil_pos kr.lowest (4_905 * height S W) (omega arith);
        most = (ceil_le kr.lowest (4_905 * height S W) most_resistance).1 (omega arith);
      }

-- ---- the layer

-- the excess pressure of an element is in range
abbrev pub ExcessWithin : Element → Type 0
ExcessWithin e = Within e.excess most_excess

module _ (site : Site) (sound : T (compressibility_sound site.compressibility)) where
  -- every excess pressure under burdens in range is in range
  from_burdens : (load : ℤ) (Bs Ss Ws : List ℕ) → Between (pos 0) (pos stress_limits.most) load → Every (λ B. B ≤ sharp_burden) Bs →
      Every ExcessWithin (elements_from site load Bs Ss Ws)
  unfolding Every elements_from element
  from_burdens load [] Ss Ws h k = tt
  from_burdens load (B ∷ Bs) [] Ws h k = tt
  from_burdens load (B ∷ Bs) (S ∷ Ss) [] h k = tt
  from_burdens load (B ∷ Bs) (S ∷ Ss) (W ∷ Ws) h k =
      (excess_within site.compressibility sound load B S W h (omega (arith, k.0)), from_burdens load Bs Ss Ws h k.1)

  -- every excess pressure of at most 128 elements is in range
  pub excesses-within : (s : State) → Between (pos 0) (pos stress_limits.most) s.load → site.gravity ≤ gravity_limits.most →
      Every (λ S. S ≤ solids_limits.most) site.solids → length site.solids ≤ element_limits.most →
      Every ExcessWithin (read_elements site s)
  unfolding read_elements
  excesses-within s h light small few =
      from_burdens s.load (burdens site.gravity site.solids) site.solids s.water h (burdens_most site.gravity light site.solids small few)

  module _ (sound' : T (conductivity_sound site.conductivity site.compressibility)) where
    -- every resistance of a part of the layer on the curve is in range
    from_water : (load : ℤ) (Bs Ss Ws : List ℕ) → Every (λ S. 0 < S) Ss → Every (λ S. S ≤ solids_limits.most) Ss →
        T (all_on_curve (skeleton site) Ss (map pos Ws)) → Every (λ e. Resists e.resistance) (elements_from site load Bs Ss Ws)
    unfolding Every elements_from element all_on_curve on_curve
    from_water load [] Ss Ws solid small t = tt
    from_water load (B ∷ Bs) [] Ws solid small t = tt
    from_water load (B ∷ Bs) (S ∷ Ss) [] solid small t = tt
    from_water load (B ∷ Bs) (S ∷ Ss) (W ∷ Ws) solid small t =
        let (on, more) = both (on_curve (skeleton site) S (pos W)) (all_on_curve (skeleton site) Ss (map pos Ws)) t in (
          resistance_ranged site.compressibility site.conductivity sound sound' S W solid.0 small.0 on,
          from_water load Bs Ss Ws solid.1 small.1 more,
        )

    -- every resistance of a layer on the curve is in range
    pub resistances_ranged : (s : State) → Every (λ S. 0 < S) site.solids → Every (λ S. S ≤ solids_limits.most) site.solids →
        T (all_on_curve (skeleton site) site.solids (map pos s.water)) → Every (λ e. Resists e.resistance) (read_elements site s)
    unfolding read_elements
    resistances_ranged s = from_water s.load (burdens site.gravity site.solids) site.solids s.water
