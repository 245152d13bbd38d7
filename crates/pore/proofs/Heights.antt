-- The height below an element, and its pore pressure, by arrays.
use Prim.Native.Nat.{ℕ, zero, suc, ◌+◌, ◌≤◌, ◌<◌}
use native.Mathlib.Nat.{add-zero, zero-add, le_of_suc-le-suc}
use native.Mathlib.Omega.{arith}
use lib.ListN.{length, get_or}
use mathlib.Core.Bool.{true}
use mathlib.Core.List.{List, [], ◌∷◌}
use mathlib.Core.Path.{◌≡◌, refl, sym, ◌∙◌}
use Rattle.numbers.proofs.Sums.{sum_le}
use Rattle.numbers.specs.Arrays.{tabulate, first_places}
use Rattle.numbers.specs.Interval.{Within}
use Rattle.numbers.specs.Sums.{sum}
use Rattle.numbers.proofs.Filled.{first_length, first_at, tabulate_cong}
use Rattle.lent.proofs.Standing.{site_is, counted, solid, soil, burden_at_lem, on_soil}
use Rattle.lent.specs.Burdens.{burdens_in}
use Rattle.pore.specs.Pore.{element_pore}
use Rattle.quantities.proofs.Limits.{inside_signed}
use Rattle.quantities.specs.Quantities.{level_limits, solids_limits, water_limits}
use Rattle.result_elements.proofs.Ranges.{water_most, excess_within, node_low, pore_within}
use Rattle.result_elements.specs.Elements.{most_height, most_pore}
use Rattle.rules.specs.Layer.{height, skeleton_of}
use Rattle.rules.specs.Record.{compressibility_points, record_site, record_state, is_layer}
use Rattle.rules.specs.Result.{heights_below, node_height, pore_pressure}
use Rattle.rules.specs.declared.record.Record.{Record}

-- the height below the element at j is that of the first j
below_at : (below : ℕ) (Ss Ws : List ℕ) (j : ℕ) → j < length Ss → j < length Ws →
    get_or (heights_below below Ss Ws) j 0 ≡ below + (sum (first_places j Ss) + sum (first_places j Ws))
unfolding heights_below first_places tabulate sum
below_at below [] Ws j h k = absurd (omega arith)
below_at below (S ∷ Ss) [] j h k = absurd (omega arith)
below_at below (S ∷ Ss) (W ∷ Ws) zero h k = sym (add-zero below)
below_at below (S ∷ Ss) (W ∷ Ws) (suc j) h k = below_at (below + height S W) Ss Ws j (le_of_suc-le-suc h) (le_of_suc-le-suc k) ∙ omega arith

-- the first places of the first places
first_first : (n j : ℕ) (array : List ℕ) → j ≤ n → first_places j (first_places n array) ≡ first_places j array
unfolding first_places
first_first n j array h = tabulate_cong j _ _ (λ i l. first_at n array i (omega arith))

-- the pore pressure of an element of a layer, by its arrays
module _ (r : Record) (is : is_layer r ≡ true) (j : ℕ) (h : j < r.layer.frame.elements) where
  abbrev n : ℕ
  n = r.layer.frame.elements

  abbrev solids : List ℕ
  solids = r.layer.solids

  abbrev water : List ℕ
  water = r.layer.water

  below_is : get_or (heights_below 0 (first_places n solids) (first_places n water)) j 0 ≡ sum (first_places j solids) + sum (first_places j water)
  below_is =
      below_at 0 (first_places n solids) (first_places n water) j (rw (first_length n solids) h) (rw (first_length n water) h) ∙
      zero-add (sum (first_places j (first_places n solids)) + sum (first_places j (first_places n water))) ∙
      rw (first_first n j solids (omega arith), first_first n j water (omega arith)) refl

  pub pore_by_arrays : element_pore r j ≡
      pore_pressure (skeleton_of (compressibility_points r.soil)) r.layer.frame.top_level.0 r.layer.progress.load.0
      (sum (first_places j solids) + sum (first_places j water)) (get_or (burdens_in r.layer.frame solids) j 0) (get_or solids j 0) (get_or water j 0)
  unfolding element_pore record_site record_state
  pore_by_arrays = rw (below_is, burden_at_lem r is j h, first_at n solids j h, first_at n water j h) refl

  -- and its range
  below_most : sum (first_places j solids) + sum (first_places j water) ≤ most_height
  below_most =
      let few = (counted r is).1 in
      let S = sum_le solids_limits.most (first_places j solids) (λ i k. rw (first_at j solids i (rw (first_length j solids) at k)) (solid r is i (inside i (rw (first_length j solids) at k))).1) in
      let W = sum_le water_limits.most (first_places j water) (λ i k. rw (first_at j water i (rw (first_length j water) at k)) ((site_is r is).sizes.water_most i (inside i (rw (first_length j water) at k)))) in
      omega (arith, S, W, first_length j solids, first_length j water)
    where
      inside : (i : ℕ) → i < j → i < n
      inside i k = omega arith

  pub pore_range : Within (element_pore r j) most_pore
  unfolding pore_pressure
  pore_range =
      let m = r.soil.counts.compressibility in
      let void = r.soil.compressibility_void in
      let stress = r.soil.compressibility_stress in
      let load = r.layer.progress.load.0 in
      let level = (site_is r is).sizes.top_level_kept in
      let below = sum (first_places j solids) + sum (first_places j water) in
      let B = get_or (burdens_in r.layer.frame solids) j 0 in
      let S = get_or solids j 0 in
      let W = get_or water j 0 in
      let sound = (soil r is).compressibility_is_sound in
      let on = on_soil r is j h in
      rw pore_by_arrays
      (pore_within r.layer.frame.top_level.0 (node_height below S W) (inside_signed level_limits _ level.0 level.1)
      (node_low below S W below_most on.solids_most (water_most m void stress sound load B S W on)) (excess_within m void stress sound load B S W on))
