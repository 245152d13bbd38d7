-- The flows of a layer that is lent with its burdens: their range, and whether the layer is steady by the least and the greatest of them.
use Prim.Native.Nat.{ℕ, ◌<◌}
use lib.Dec.{lit≤}
use lib.IntN.{ℤ, pos, neg_ℤ, ◌-ℤ◌}
use lib.ListN.{get_or, replicate}
use lib.Signed.{le_z}
use mathlib.Core.Bool.{true}
use mathlib.Core.List.{List, [], ◌∷◌}
use mathlib.Core.Path.{◌≡◌, refl, sym, ap, ◌∙◌}
use Rattle.element.proofs.FlowsAt.{above_range, outward_range}
use Rattle.element.specs.Elements.{element_of, element_in, elements_in}
use Rattle.laws.specs.Most.{most_flow}
use Rattle.layer.proofs.StepAt.{upward-flows_in}
use Rattle.layer.specs.Held.{Held, Stands, held_of, excess_at, resistance_at}
use Rattle.lent.proofs.LayerReads.{flows_are}
use Rattle.lent.proofs.Standing.{site_is, counted, soil, on_soil}
use Rattle.lent.specs.Worked.{excesses_in, held_in, resistances_in}
use Rattle.numbers.proofs.Filled.{get_or-filled, get_or-tabulate, tabulate_cong}
use Rattle.numbers.proofs.Interval.{within_neg}
use Rattle.numbers.specs.Arrays.{tabulate, zeros}
use Rattle.numbers.specs.Interval.{Within}
use Rattle.quantities.specs.declared.Face.{Face}
use Rattle.rules.specs.Record.{record_site, record_state, is_layer}
use Rattle.rules.specs.Steady.{steady_seconds, steady_flows, steady}
use Rattle.rules.specs.Step.{outward, upward_flows}
use Rattle.rules.specs.declared.record.Record.{Record}
use Rattle.steady_test.proofs.ByExtremes.{extremes_have, by_extremes}
use Rattle.steady_test.proofs.FlowsOver.{excess_in}
use Rattle.steady_test.specs.Extremes.{extremes_to}
use Rattle.steady_test.specs.Flows.{lowest_flow, flow_over}
use Rattle.steady_test.specs.declared.extremes.Extremes.{Extremes}
use Rattle.weights.specs.Weights.{burden_at}

module _ (r : Record) (is : is_layer r ≡ true) where
  abbrev n : ℕ
  n = r.layer.frame.elements

  abbrev top : Face
  top = r.layer.frame.top

  abbrev bottom : Face
  bottom = r.layer.frame.bottom

  module _ (burden : List ℕ)
      (burden_is : (j : ℕ) → j < n → get_or burden j 0 ≡ burden_at r.layer.frame.gravity n r.layer.solids j) where
    abbrev h : Held
    h = held_of r.soil n r.layer.progress.load.0 burden r.layer.solids r.layer.water

    same_burden : (j : ℕ) → j < n → get_or burden j 0 ≡ get_or (held_in r).burden j 0
    same_burden j k = burden_is j k ∙ sym (get_or-filled (zeros 128) n (burden_at r.layer.frame.gravity n r.layer.solids) j 0 k)

    pub stands : Stands h
    stands = record { soil = soil r is; on_soil = λ j k. rw (same_burden j k) (on_soil r is j k) }

    excess_same : (j : ℕ) → j < n → excess_at h j ≡ excess_at (held_in r) j
    excess_same j k = rw (same_burden j k) refl

    -- ---- the layer is steady just where its flows are

    abbrev excess : List ℤ
    excess = tabulate n (excess_at h)

    abbrev resistance : List ℕ
    resistance = tabulate n (resistance_at h)

    abbrev nothing : List ℤ
    nothing = replicate 128 (pos 0)

    elements_same : elements_in n excess resistance [] ≡ elements_in n (excesses_in r nothing) (resistances_in r (zeros 128)) []
    unfolding elements_in
    elements_same =
        tabulate_cong n (element_in excess resistance []) (element_in (excesses_in r nothing) (resistances_in r (zeros 128)) [])
        (λ j k. λ i.
        element_of
        ((get_or-tabulate n (excess_at h) j (pos 0) k ∙ excess_same j k ∙ sym (get_or-filled nothing n (excess_at (held_in r)) j (pos 0) k)) i)
        ((get_or-tabulate n (resistance_at h) j 0 k ∙ sym (get_or-filled (zeros 128) n (resistance_at (held_in r)) j 0 k)) i) 0)

    steady_flows_lem : steady (record_site r) (record_state r) ≡ steady_flows (lowest_flow bottom h ∷ tabulate n (flow_over top h))
    unfolding steady record_site lowest_flow flow_over
    steady_flows_lem =
        ap steady_flows
        (sym (flows_are r is nothing (zeros 128) steady_seconds) ∙ ap (upward_flows top bottom steady_seconds) (sym elements_same) ∙
        upward-flows_in n excess resistance [] top bottom steady_seconds (counted r is).0 ∙
        λ i.
        neg_ℤ (outward bottom steady_seconds (element_of (get_or-tabulate n (excess_at h) 0 (pos 0) (counted r is).0 i) (get_or-tabulate n (resistance_at h) 0 0 (counted r is).0 i) 0)) ∷
        tabulate n (flow_over top h))

    -- ---- the least and the greatest of them

    lowest_within : Within (lowest_flow bottom h) most_flow
    unfolding lowest_flow
    lowest_within =
        within_neg
        (outward_range bottom steady_seconds (element_of (excess_at h 0) (resistance_at h 0) 0) (site_is r is).bottom_held
        (excess_in h stands 0 (counted r is).0) (lit≤ tt))

    above_within : (j : ℕ) → j < n → Within (flow_over top h j) most_flow
    unfolding flow_over
    above_within =
        above_range top (site_is r is).top_held steady_seconds (lit≤ tt) n excess resistance
        (λ j k. rw (get_or-tabulate n (excess_at h) j (pos 0) k) (excess_in h stands j k))

    module _ {range : Extremes} (range_is : range ≡ extremes_to (lowest_flow bottom h) n (flow_over top h)) where
      pub range_within : Within range.least most_flow × Within range.greatest most_flow
      range_within =
          rw range_is (extremes_have (lowest_flow bottom h) (flow_over top h) (λ z. Within z most_flow) n lowest_within above_within)

      pub steady_by_range : le_z (range.greatest -ℤ range.least) (pos 1) ≡ steady (record_site r) (record_state r)
      steady_by_range = rw range_is (sym (by_extremes (lowest_flow bottom h) n (flow_over top h))) ∙ sym steady_flows_lem
