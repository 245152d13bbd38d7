-- What a record holds for good: it makes the site sound, no call changes it, and with a state that is kept it makes the record a layer.
use Prim.Native.Nat.{ℕ, ◌*◌, ◌≤◌, ◌<◌}
use native.Mathlib.Omega.{arith}
use lib.Dec.{T, le→leb}
use lib.IntN.{ℤ, pos, nat_abs}
use lib.ListN.{length}
use mathlib.Core.Bool.{Bool, true, ◌&&◌}
use mathlib.Core.List.{List, [], ◌∷◌, map}
use mathlib.Core.Path.{◌≡◌, refl, sym}
use Rattle.claims.proofs.Kept.{SoundSite, Kept}
use Rattle.laws.proofs.SoundHeader.{sound_header}
use Rattle.laws.specs.Every.{Every}
use Rattle.laws.proofs.Every.{every_map, every_all}
use Rattle.laws.proofs.Index.{points-length}
use Rattle.laws.specs.Faces.{Holds}
use Rattle.laws.proofs.VoidRatio.{water_on_curve}
use Rattle.numbers.specs.Arrays.{first_places, overlaid}
use Rattle.numbers.proofs.Equality.{eqℤ→eq, eq→eqℤ}
use Rattle.numbers.proofs.Filled.{first_length, tabulated, get_or-overlaid}
use Rattle.numbers.specs.Interval.{Within}
use Rattle.numbers.specs.Lists.{all}
use Rattle.numbers.proofs.Searches.{passed, is_true, both, joined}
use Rattle.rules.specs.Curve.{Point, compressibility_sound, conductivity_sound}
use Rattle.rules.specs.Layer.{Site, State, skeleton_of, effective_stress, top_pressure, bottom_pressure}
use Rattle.rules.specs.Load.{table_sound}
use Rattle.quantities.specs.Quantities.{within, within_ℤ, level_limits, solids_limits, water_limits, stress_limits, clock_limits, starting_water_limits, outflow_rate, outflow_within}
use Rattle.rules.specs.Record.{form_sound, face_number, closed_at_zero, heights_sound, sizes_sound, face_holds, is_layer}
use Rattle.rules.specs.Record.{record_site, record_state, with_state, with_events}
use Rattle.rules.specs.Run.{Event, after_events}
use Rattle.rules.specs.Step.{on_curve, all_on_curve}
use Rattle.quantities.specs.declared.Face.{Face}
use Rattle.quantities.specs.declared.Face.TheVariants.{Closed, Drained}
use Rattle.quantities.specs.declared.Pressure.{Pressure}
use Rattle.rules.specs.declared.record.Record.{Record}
use Rattle.quantities.proofs.Limits.{inside, inside_signed, within_parts}
use Rattle.rules.proofs.Sound.{falls_down}
use Rattle.laws.proofs.SiteFacts.{site_by, bottom_within}
use Rattle.laws.proofs.Sizes.{signed_between}
use Rattle.laws.proofs.StateFacts.{state_by}

-- the tests of a layer that no call changes
pub record Fixed (r : Record) : Type 0 where
  pub header :
      form_sound (face_number r.layer.frame.top) (face_number r.layer.frame.bottom) r.layer.frame.elements r.soil.counts.compressibility r.soil.counts.conductivity
      r.layer.frame.table_points 0 r.layer.frame.gravity ≡ true
  pub sizes : sizes_sound (record_site r) [] ≡ true
  pub compressibility : compressibility_sound (record_site r).compressibility ≡ true
  pub conductivity : conductivity_sound (record_site r).conductivity (record_site r).compressibility ≡ true
  pub table : table_sound (record_site r).load_table ≡ true
  pub top : face_holds r.layer.frame.top top_pressure ≡ true
  pub bottom : face_holds r.layer.frame.bottom (bottom_pressure (record_site r).top_level (record_site r).bottom_level) ≡ true
  pub starting : within starting_water_limits r.layer.frame.starting_water ≡ true

-- ---- the site is sound

abbrev levels : Site → Bool
levels site = within_ℤ level_limits site.top_level && within_ℤ level_limits site.bottom_level

abbrev leveled : Site → Bool
leveled site = levels site && closed_at_zero site.bottom site.bottom_level

-- levels and solids: the sizes without water
dry : (site : Site) (water : List ℕ) → T (sizes_sound site water) → T (leveled site) × T (all (within solids_limits) site.solids)
unfolding sizes_sound
dry site water t =
    let (kept, heights) = both (leveled site) (heights_sound site.solids water) t in
    (kept, (both (all (within solids_limits) site.solids) (all (within water_limits) water) heights).0)

-- and with water
wet : (site : Site) (water : List ℕ) → T (leveled site) × T (all (within solids_limits) site.solids) → T (all (within water_limits) water) → T (sizes_sound site water)
unfolding sizes_sound
wet site water sizes each =
    joined (leveled site) (heights_sound site.solids water) sizes.0
    (joined (all (within solids_limits) site.solids) (all (within water_limits) water) sizes.1 each)

pub sized_dry : (site : Site) (water : List ℕ) → T (sizes_sound site water) → T (sizes_sound site [])
unfolding all
sized_dry site water t = wet site [] (dry site water t) tt

holds_of : (face : Face) (held : Pressure) → face_holds face held ≡ true → Holds (λ p. p ≡ held.0) face
unfolding face_holds Holds
holds_of Closed held e = tt
holds_of (Drained other) held e = eqℤ→eq other.0 held.0 (passed e)

pub sound_site : (r : Record) → Fixed r → SoundSite (record_site r)
unfolding record_site top_pressure
sound_site r f =
    let site = record_site r in
    let header = sound_header _ _ _ _ _ _ _ _ f.header in
    let closed = closed_at_zero r.layer.frame.bottom site.bottom_level in
    let (kept, solids) = dry site [] (passed f.sizes) in
    let within-levels = (both (levels site) closed kept).0 in
    let (top, bottom) = both (within_ℤ level_limits site.top_level) (within_ℤ level_limits site.bottom_level) within-levels in
    let each = (every_all (within solids_limits) site.solids).0 solids in
    record {
      compressibility = passed f.compressibility;
      falls = falls_down r.soil.counts.compressibility r.soil.compressibility_void r.soil.compressibility_stress f.compressibility;
      two =
          rw (points-length r.soil.counts.compressibility r.soil.compressibility_void r.soil.compressibility_stress)
          header.compressibility_kept.least;
      table = passed f.table;
      solid = every_map (λ S. T (within solids_limits S)) (λ S. 0 < S) (λ S t. omega (arith, (within_parts solids_limits S t).0)) site.solids each;
      small = every_map (λ S. T (within solids_limits S)) (λ S. S ≤ solids_limits.most) (λ S t. (within_parts solids_limits S t).1) site.solids each;
      few = rw (first_length r.layer.frame.elements r.layer.solids) header.elements_kept.most;
      light = header.gravity_kept.most;
      top_holds = holds_of r.layer.frame.top top_pressure f.top;
      bottom_holds = holds_of r.layer.frame.bottom (bottom_pressure site.top_level site.bottom_level) f.bottom;
      held-within =
          bottom_within site.top_level site.bottom_level (signed_between level_limits site.top_level top)
          (signed_between level_limits site.bottom_level bottom);
    }

-- ---- with a state that is kept, the record is a layer

-- water on a sound curve is within its limits
pub water_limited : (curve : List Point) (Ss Ws : List ℕ) → T (compressibility_sound curve) → Every (λ S. 0 < S) Ss →
    Every (λ S. S ≤ solids_limits.most) Ss → length Ws ≡ length Ss → T (all_on_curve (skeleton_of curve) Ss (map pos Ws)) → Every (λ W. W ≤ water_limits.most) Ws
unfolding Every all_on_curve on_curve effective_stress
water_limited curve Ss [] sound solid small n t = tt
water_limited curve [] (W ∷ Ws) sound solid small n t = absurd (omega arith)
water_limited curve (S ∷ Ss) (W ∷ Ws) sound solid small n t =
    let (on, more) = both (on_curve (skeleton_of curve) S (pos W)) (all_on_curve (skeleton_of curve) Ss (map pos Ws)) t in (
      water_on_curve S solid.0 curve W small.0 sound on,
      water_limited curve Ss Ws sound solid.1 small.1 (omega arith) more,
    )

outflow_kept : (outflow : ℤ) (clock : ℕ) → Within outflow (outflow_rate * clock) → outflow_within outflow clock ≡ true
unfolding outflow_within
outflow_kept outflow clock w = is_true _ (le→leb (nat_abs outflow) (outflow_rate * clock) w.bound)

module _ (r : Record) (f : Fixed r) (k : Kept (record_site r) r.layer.frame.starting_water (record_state r)) where
  water_sized : sizes_sound (record_site r) (record_state r).water ≡ true
  water_sized =
      let site = record_site r in
      let sound = sound_site r f in
      let water = (record_state r).water in
      let most =
      water_limited site.compressibility site.solids water sound.compressibility sound.solid sound.small k.size k.is_on_curve in
      let each =
      every_map (λ W. W ≤ water_limits.most) (λ W. T (within water_limits W)) (λ W h. passed (inside water_limits W (omega arith) h)) water most in
      is_true _ (wet site water (dry site [] (passed f.sizes)) ((every_all (within water_limits) water).1 each))

  pub is_a_layer : is_layer r ≡ true
  unfolding is_layer
  is_a_layer =
      let s = record_state r in
      rw (
        site_by r f.header water_sized f.compressibility f.conductivity f.table f.top f.bottom,
        state_by r (is_true _ k.is_on_curve) (inside_signed stress_limits s.load k.load.0 k.load.1)
            (inside clock_limits s.clock (omega arith) k.clock) f.starting (outflow_kept s.top_outflow s.clock k.top_bound)
            (outflow_kept s.bottom_outflow s.clock k.bottom_bound) (is_true _ (eq→eqℤ _ _ k.balanced)),
      )

-- ---- no call changes it

pub fixed_state : (r : Record) (s : State) → Fixed r → Fixed (with_state r s)
unfolding with_state record_site
fixed_state r s f = record {
  header = f.header;
  sizes = f.sizes;
  compressibility = f.compressibility;
  conductivity = f.conductivity;
  table = f.table;
  top = f.top;
  bottom = f.bottom;
  starting = f.starting;
}

-- the first places of an array with a list in them are the list
pub own_places : (list array : List ℕ) (n : ℕ) → length list ≡ n → first_places n (overlaid list array) ≡ list
unfolding first_places
own_places list array n e =
    sym (tabulated n _ list 0 e (λ i h. sym (get_or-overlaid list array i 0 (omega arith))))

-- a record with another state has that state, if it has a water height for each element
pub state_set : (r : Record) (s : State) → length s.water ≡ r.layer.frame.elements → record_state (with_state r s) ≡ s
unfolding with_state record_state
state_set r s e = λ i. record {
  water = own_places s.water r.layer.water r.layer.frame.elements e i;
  load = s.load;
  clock = s.clock;
  top_outflow = s.top_outflow;
  bottom_outflow = s.bottom_outflow;
}

-- the record after events
module _ (r : Record) where
  pub fixed_after : (es : List Event) → Fixed r → Fixed (with_events r es)
  unfolding with_events
  fixed_after [] f = f
  fixed_after (e ∷ rest) f = fixed_state r (after_events (record_site r) (e ∷ rest) (record_state r)) f

  pub site_after : (es : List Event) → record_site (with_events r es) ≡ record_site r
  unfolding with_events record_site
  site_after [] = refl
  site_after (e ∷ rest) = refl

  pub starting_after : (es : List Event) → (with_events r es).layer.frame.starting_water ≡ r.layer.frame.starting_water
  unfolding with_events
  starting_after [] = refl
  starting_after (e ∷ rest) = refl

  pub state_after : (es : List Event) → length (after_events (record_site r) es (record_state r)).water ≡ r.layer.frame.elements →
      record_state (with_events r es) ≡ after_events (record_site r) es (record_state r)
  unfolding with_events after_events
  state_after [] h = refl
  state_after (e ∷ rest) h = state_set r (after_events (record_site r) (e ∷ rest) (record_state r)) h
