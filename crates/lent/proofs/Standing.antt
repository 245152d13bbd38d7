-- A record that is a layer meets what its arrays are asked for.
use Prim.Native.Nat.{ℕ, ◌≤◌, ◌<◌}
use native.Mathlib.Omega.{arith}
use native.Mathlib.Nat.{le_trans}
use lib.Dec.{lit≤}
use lib.IntN.{ℤ, pos}
use lib.ListN.{get_or}
use mathlib.Core.Bool.{true}
use mathlib.Core.List.{List, map}
use mathlib.Core.Path.{◌≡◌, sym, ap, ◌∙◌}
use Rattle.laws.proofs.Every as every
use Rattle.laws.specs.Every.{Every}
use Rattle.laws.proofs.Every.{every_tabulate}
use Rattle.laws.proofs.Excess.{burdens_most}
use Rattle.laws.proofs.Lengths.{burdens-length}
use Rattle.laws.specs.Most.{sharp_burden, most_burden}
use Rattle.layer.proofs.StepAt.{map-tabulate, on_curve_in}
use Rattle.layer.specs.Soil.{SoilSound, OnSoil}
use Rattle.weights.specs.Weights.{burden_at}
use Rattle.lent.specs.Burdens.{burdens_in}
use Rattle.numbers.specs.Arrays.{tabulate, zeros, first_places}
use Rattle.numbers.proofs.Filled.{get_or-filled, first_length}
use Rattle.numbers.proofs.Indices.{every_at}
use Rattle.numbers.proofs.Searches.{passed, both, is_true}
use Rattle.rules.specs.Curve.{Point, is_on}
use Rattle.rules.specs.Layer.{Skeleton, skeleton_of, effective_stress, burdens}
use Rattle.quantities.specs.Quantities.{solids_limits, gravity_limits, element_limits}
use Rattle.rules.specs.Record.{compressibility_points, record_site, record_state, site_sound, state_sound, is_layer}
use Rattle.rules.specs.Step.{on_curve, all_on_curve}
use Rattle.rules.specs.declared.record.Record.{Record}
use Rattle.laws.proofs.SiteFacts.{SiteFacts, site_facts}
use Rattle.laws.proofs.StateFacts.{StateFacts, state_facts}

-- where all heights are on a curve, each is
pub each_stands : (soil : Skeleton) (n : ℕ) (solids water : List ℕ) →
    all_on_curve soil (first_places n solids) (map pos (first_places n water)) ≡ true →
    (j : ℕ) → j < n → is_on (effective_stress soil (get_or solids j 0) (get_or water j 0)) ≡ true
unfolding first_places on_curve
each_stands soil n solids water e j h =
    let W : ℕ → ℤ = λ i. pos (get_or water i 0) in
    let all-on : all_on_curve soil (first_places n solids) (tabulate n W) ≡ true =
    ap (all_on_curve soil (first_places n solids)) (sym (map-tabulate pos n (λ i. get_or water i 0))) ∙ e in
    is_true _ (every_at n (λ i. on_curve soil (get_or solids i 0) (W i)) (passed (sym (on_curve_in soil n solids W) ∙ all-on)) j h)

module _ (r : Record) (is : is_layer r ≡ true) where
  pub site_is : SiteFacts r
  unfolding is_layer
  site_is = site_facts r (is_true (site_sound r) (both (site_sound r) (state_sound r) (passed is)).0)

  pub state_is : StateFacts r
  unfolding is_layer
  state_is = state_facts r (is_true (state_sound r) (both (site_sound r) (state_sound r) (passed is)).1)

  abbrev n : ℕ
  n = r.layer.frame.elements

  abbrev m : ℕ
  m = r.soil.counts.compressibility

  abbrev k : ℕ
  k = r.soil.counts.conductivity

  abbrev curve : List Point
  curve = compressibility_points r.soil

  pub counted : (0 < n) × (n ≤ element_limits.most)
  counted = (site_is.header.elements_kept.least, site_is.header.elements_kept.most)

  pub weighted : (gravity_limits.least ≤ r.layer.frame.gravity) × (r.layer.frame.gravity ≤ gravity_limits.most)
  weighted = (site_is.header.gravity_kept.least, site_is.header.gravity_kept.most)

  pub solid : (j : ℕ) → j < n → (0 < get_or r.layer.solids j 0) × (get_or r.layer.solids j 0 ≤ solids_limits.most)
  solid j h = (omega (arith, site_is.sizes.solids_least j h), site_is.sizes.solids_most j h)

  pub soil : SoilSound m r.soil.compressibility_void r.soil.compressibility_stress k r.soil.conductivity_void r.soil.conductivity
  soil = record {
    compressibility_few = site_is.header.compressibility_kept.least;
    compressibility_many = site_is.header.compressibility_kept.most;
    conductivity_few = site_is.header.conductivity_kept.least;
    conductivity_many = site_is.header.conductivity_kept.most;
    compressibility_is_sound = site_is.compressibility;
    conductivity_is_sound = site_is.conductivity;
  }

  -- each element is on the curve
  pub stands : (j : ℕ) → j < n → is_on (effective_stress (skeleton_of curve) (get_or r.layer.solids j 0) (get_or r.layer.water j 0)) ≡ true
  unfolding record_site record_state
  stands = each_stands (skeleton_of curve) n r.layer.solids r.layer.water state_is.is_on_curve

  -- the weights above
  abbrev burden : List ℕ
  burden = burdens_in r.layer.frame r.layer.solids

  pub burden_at_lem : (j : ℕ) → j < n → get_or burden j 0 ≡ get_or (burdens r.layer.frame.gravity (first_places n r.layer.solids)) j 0
  unfolding burden_at
  burden_at_lem j h = get_or-filled (zeros 128) n (burden_at r.layer.frame.gravity n r.layer.solids) j 0 h

  pub burden_most : (j : ℕ) → j < n → get_or burden j 0 ≤ most_burden
  unfolding first_places
  burden_most j h =
      let Ss = first_places n r.layer.solids in
      let Bs = burdens r.layer.frame.gravity Ss in
      let most : Every (λ B. B ≤ sharp_burden) Bs =
      burdens_most r.layer.frame.gravity weighted.1 Ss (every_tabulate (λ S. S ≤ solids_limits.most) n (λ i. get_or r.layer.solids i 0) (λ i l. (solid i l).1))
      (rw (first_length n r.layer.solids) counted.1) in
      rw (burden_at_lem j h) (le_trans (every.every_at (λ B. B ≤ sharp_burden) Bs j 0 most (rw (burdens-length r.layer.frame.gravity Ss, first_length n r.layer.solids) h)) (lit≤ tt))

  pub on_soil : (j : ℕ) → j < n →
      OnSoil m r.soil.compressibility_void r.soil.compressibility_stress r.layer.progress.load.0 (get_or burden j 0) (get_or r.layer.solids j 0) (get_or r.layer.water j 0)
  on_soil j h = record {
    load_between = state_is.load_between;
    burden_most = burden_most j h;
    solids_positive = (solid j h).0;
    solids_most = (solid j h).1;
    is_on_curve = stands j h;
  }
