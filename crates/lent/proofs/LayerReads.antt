-- A layer as arrays hold it: what is worked out for it and read of it keeps its range, and a step over the arrays is the rules'.
use Prim.Native.Nat.{ℕ, ◌-◌, ◌≤◌, ◌<◌}
use native.Mathlib.Omega.{arith}
use lib.IntN.{ℤ, pos}
use lib.ListN.{get_or}
use mathlib.Core.Bool.{true, not}
use mathlib.Core.List.{List, []}
use mathlib.Core.Path.{◌≡◌, refl, sym, ap, ◌∙◌}
use Rattle.element.specs.Elements.{elements_in, Readable, flow_above}
use Rattle.laws.specs.Bounds.{lowest_water, highest_water}
use Rattle.laws.proofs.Bounds.{lowest_most, highest_most}
use Rattle.laws.proofs.Excess as Excess
use Rattle.laws.proofs.Index.{points-length}
use Rattle.laws.specs.Most.{most_sensitivity}
use Rattle.laws.proofs.Steep.{steep_positive, steep_most}
use Rattle.laws.proofs.VoidRatio.{sensitivity_pos}
use Rattle.layer.proofs.ReadAt.{water_most}
use Rattle.layer.proofs.StepAt.{flows_in_lem, upward-flows_in, contacts_in, elements_in_lem}
use Rattle.layer.specs.Held.{excess_at, resistance_at, Stands}
use Rattle.layer_step.proofs.MovingAt.{Bounded, stays_is}
use Rattle.layer_step.specs.Moving.{flows_in, new_heights, stays_between}
use Rattle.lent.proofs.Standing.{site_is, counted, solid, soil, burden_at_lem, on_soil}
use Rattle.lent.specs.Worked.{held_in, sensitivities_in, least_water_in, most_water_in, excesses_in, resistances_in}
use Rattle.numbers.specs.Arrays.{zeros, filled, overlaid}
use Rattle.numbers.proofs.Division.{ceil_le}
use Rattle.numbers.proofs.Filled.{get_or-filled, first_length, first_at}
use Rattle.numbers.specs.Lists.{any, greatest}
use Rattle.numbers.proofs.Searches.{passed}
use Rattle.points.proofs.Covers.{ends}
use Rattle.rules.proofs.Sound.{compressible, falls_down}
use Rattle.rules.specs.Curve.{Point, curve_steepness}
use Rattle.rules.specs.Layer as layer
use Rattle.rules.specs.Layer.{read_elements}
use Rattle.quantities.specs.Quantities.{stress_limits, water_limits, void_unit}
use Rattle.rules.specs.Record.{compressibility_points, conductivity_points, record_site, record_state, is_layer}
use Rattle.rules.specs.Step.{Contact, flows_above, upward_flows, too_long_at, too_long, site_steepness, leaves_curve, stepped}
use Rattle.quantities.specs.declared.Face.{Face}
use Rattle.rules.specs.declared.record.Record.{Record}
use Rattle.step_length.specs.Reach.{Limited, is_too_long, longest_within}

module _ (r : Record) (is : is_layer r ≡ true) where
  abbrev n : ℕ
  n = r.layer.frame.elements

  abbrev m : ℕ
  m = r.soil.counts.compressibility

  abbrev void : List ℕ
  void = r.soil.compressibility_void

  abbrev stress : List ℕ
  stress = r.soil.compressibility_stress

  abbrev solids : List ℕ
  solids = r.layer.solids

  abbrev water : List ℕ
  water = r.layer.water

  abbrev first : List Point
  first = compressibility_points r.soil

  abbrev second : List Point
  second = conductivity_points r.soil

  abbrev top : Face
  top = r.layer.frame.top

  abbrev bottom : Face
  bottom = r.layer.frame.bottom

  pub stands_held : Stands (held_in r)
  stands_held = record { soil = soil r is; on_soil = on_soil r is }

  -- ---- what is worked out once

  pub bounded : Bounded first n solids (least_water_in r) (most_water_in r)
  bounded =
      let (first_is, last-is) = ends m void stress (omega (arith, (soil r is).compressibility_few)) in
      record {
        falls = falls_down m void stress (site_is r is).compressibility;
        two = rw (points-length m void stress) (soil r is).compressibility_few;
        solid = λ j h. (solid r is j h).0;
        lows = λ j h. get_or-filled (zeros 128) n (λ i. lowest_water (get_or solids i 0) (get_or void (m - 1) 0)) j 0 h ∙ ap (lowest_water (get_or solids j 0)) (sym last-is);
        highs = λ j h. get_or-filled (zeros 128) n (λ i. highest_water (get_or solids i 0) (get_or void 0 0)) j 0 h ∙ ap (highest_water (get_or solids j 0)) (sym first_is);
      }

  -- the bounds of water keep the limits
  pub bounds_most : (j : ℕ) → j < n → (get_or (least_water_in r) j 0 ≤ water_limits.most) × (get_or (most_water_in r) j 0 ≤ water_limits.most)
  bounds_most j h =
      let c = compressible m void stress (site_is r is).compressibility in
      let few = (soil r is).compressibility_few in
      rw (
        get_or-filled (zeros 128) n (λ i. lowest_water (get_or solids i 0) (get_or void (m - 1) 0)) j 0 h,
        get_or-filled (zeros 128) n (λ i. highest_water (get_or solids i 0) (get_or void 0 0)) j 0 h,
      ) (
        lowest_most (get_or solids j 0) (get_or void (m - 1) 0) (solid r is j h).1 (c.void_high (m - 1) (omega (arith, few))),
        highest_most (get_or solids j 0) (get_or void 0 0) (solid r is j h).0 (solid r is j h).1 (c.void_high 0 (omega (arith, few))),
      )

  pub waters_most : (j : ℕ) → j < n → get_or water j 0 ≤ water_limits.most
  waters_most j h = water_most m void stress r.soil.counts.conductivity r.soil.conductivity_void r.soil.conductivity (soil r is) _ _ _ _ (on_soil r is j h)

  pub steepness_range : (0 < curve_steepness first) × (curve_steepness first ≤ stress_limits.most)
  steepness_range = (steep_positive first bounded.falls bounded.two, steep_most first (passed (site_is r is).compressibility))

  sensitivity_at : (j : ℕ) → j < n → get_or (sensitivities_in r) j 0 ≡ layer.sensitivity (get_or solids j 0)
  sensitivity_at j h = get_or-filled (zeros 128) n (λ i. layer.sensitivity (get_or solids i 0)) j 0 h

  -- ---- what is read

  module _ (excess₀ : List ℤ) (resistance₀ : List ℕ) where
    abbrev excess : List ℤ
    excess = excesses_in r excess₀

    abbrev resistance : List ℕ
    resistance = resistances_in r resistance₀

    excess_at_lem : (j : ℕ) → j < n → get_or excess j (pos 0) ≡ excess_at (held_in r) j
    excess_at_lem j h = get_or-filled excess₀ n (excess_at (held_in r)) j (pos 0) h

    resistance_at_lem : (j : ℕ) → j < n → get_or resistance j 0 ≡ resistance_at (held_in r) j
    resistance_at_lem j h = get_or-filled resistance₀ n (resistance_at (held_in r)) j 0 h

    resists : (j : ℕ) → j < n → Excess.Resists (resistance_at (held_in r) j)
    resists j h =
        Excess.resistance_ranged first second (passed (soil r is).compressibility_is_sound) (passed (soil r is).conductivity_is_sound) (get_or solids j 0) (get_or water j 0)
        (solid r is j h).0 (solid r is j h).1 (passed (on_soil r is j h).is_on_curve)

    pub readable : Readable n excess resistance
    readable = record {
      excess_within = λ j h. rw (excess_at_lem j h) (Excess.excess_within first (passed (soil r is).compressibility_is_sound) _ _ (get_or solids j 0) (get_or water j 0)
          (on_soil r is j h).load_between (on_soil r is j h).burden_most);
      resistance_positive = λ j h. rw (resistance_at_lem j h) (resists j h).positive;
      resistance_most = λ j h. rw (resistance_at_lem j h) (resists j h).most;
    }

    pub limited : Limited n resistance (sensitivities_in r)
    unfolding layer.sensitivity
    limited = record {
      resistance_most = readable.resistance_most;
      sensitivity_positive = λ j h. rw (sensitivity_at j h) (sensitivity_pos (get_or solids j 0) (solid r is j h).0);
      sensitivity_most = λ j h. rw (sensitivity_at j h)
          ((ceil_le (solid r is j h).0 void_unit most_sensitivity).1 (let p = (solid r is j h).0 in omega arith));
    }

    -- ---- a step over these arrays is the rules'

    pub elements_are : read_elements (record_site r) (record_state r) ≡ elements_in n excess resistance (sensitivities_in r)
    unfolding record_site record_state
    elements_are =
        elements_in_lem (record_site r) (record_state r) n (first_length n solids) (first_length n water) excess resistance (sensitivities_in r)
        (λ j h. excess_at_lem j h ∙ rw (first_at n solids j h, first_at n water j h, burden_at_lem r is j h) refl)
        (λ j h. resistance_at_lem j h ∙ rw (first_at n solids j h, first_at n water j h) refl)
        (λ j h. sensitivity_at j h ∙ rw (first_at n solids j h) refl)

    pub longest_is : (most : ℕ) → longest_within top bottom (curve_steepness first) n resistance (sensitivities_in r) most ≡
        greatest most (λ t. not (too_long (record_site r) (record_state r) t))
    unfolding longest_within is_too_long too_long site_steepness record_site
    longest_is most =
        rw elements_are
        (ap (λ (cs : List Contact). greatest most (λ t. not (any (too_long_at (curve_steepness first) t) cs))) (contacts_in n excess resistance (sensitivities_in r) top bottom))

    module _ (t : ℕ) where
      pub too_long_is : is_too_long top bottom (curve_steepness first) n resistance (sensitivities_in r) t ≡ too_long (record_site r) (record_state r) t
      unfolding is_too_long too_long site_steepness record_site
      too_long_is =
          rw elements_are
          (ap (any (too_long_at (curve_steepness first) t)) (contacts_in n excess resistance (sensitivities_in r) top bottom))

      abbrev pub flows : List ℤ
      flows = flows_in top bottom t n excess resistance

      pub flows_are : flows ≡ upward_flows top bottom t (read_elements (record_site r) (record_state r))
      flows_are =
          rw elements_are
          (upward-flows_in n excess resistance [] top bottom t (counted r is).0 ∙ sym (upward-flows_in n excess resistance (sensitivities_in r) top bottom t (counted r is).0))

      pub leaves_is : leaves_curve (record_site r) (record_state r) t ≡ not (stays_between n (least_water_in r) (most_water_in r) water flows)
      unfolding leaves_curve record_site record_state
      leaves_is = rw (stays_is n (counted r is).0 top bottom t excess resistance [] water (least_water_in r) (most_water_in r) first solids bounded, flows_are) refl

      pub stepped_is : overlaid (new_heights n water flows) water ≡ overlaid (stepped (record_site r) t (record_state r)).water water
      unfolding stepped record_site record_state
      stepped_is = rw flows_are refl

      pub above_are : (above : List ℤ) → filled above n (flow_above top t n excess resistance) ≡
          filled above n (λ j. get_or (flows_above top t (read_elements (record_site r) (record_state r))) j (pos 0))
      unfolding flow_above
      above_are above =
          rw elements_are
          (ap (λ (l : List ℤ). filled above n (λ j. get_or l j (pos 0)))
          (flows_in_lem n excess resistance [] top t ∙ sym (flows_in_lem n excess resistance (sensitivities_in r) top t)))
