-- The record: what it holds of a job and of a state, and when it is a layer.
use Rattle.std.specs.Prelude.{ℕ, ℤ, pos, ◌+ℤ◌, Bool, true, ◌&&◌, List, [], ◌∷◌, map}
use Rattle.numbers.specs.Arrays.{first_places, overlaid}
use Rattle.numbers.specs.Integers.{eq_ℤ}
use Rattle.numbers.specs.Lists.{all}
use Rattle.numbers.specs.Sums.{sum}
use Rattle.quantities.specs.Quantities.{within, within_ℤ, stress_limits, level_limits, clock_limits, solids_limits, water_limits, gravity_limits, element_limits, curve_limits, table_limits, flag_limits, start_limits, starting_water_limits, outflow_within, pressure}
use Rattle.rules.specs.Curve.{Point, points, compressibility_sound, conductivity_sound}
use Rattle.rules.specs.Layer.{Site, State, skeleton, top_pressure, bottom_pressure}
use Rattle.rules.specs.Step.{all_on_curve}
use Rattle.rules.specs.Load.{table_sound}
use Rattle.rules.specs.Run.{Event, after_events}
use Rattle.quantities.specs.declared.Face.{Face}
use Rattle.quantities.specs.declared.Face.TheVariants.{Closed, Drained}
use Rattle.quantities.specs.declared.Pressure.{Pressure}
use Rattle.rules.specs.declared.record.CurveCounts.{CurveCounts}
use Rattle.rules.specs.declared.record.Frame.{Frame}
use Rattle.rules.specs.declared.record.Layer.{Layer}
use Rattle.rules.specs.declared.record.Progress.{Progress}
use Rattle.rules.specs.declared.record.Record.{Record}
use Rattle.rules.specs.declared.record.Soil.{Soil}

-- the job's number of a face
unfoldable pub face_number : Face → ℕ
face_number Closed = 0
face_number (Drained held) = 1

-- cause 3, of the numbers of a job's bytes 5 to 13
unfoldable pub form_sound :
    (top bottom elements compressibility_points conductivity_points table_points start gravity : ℕ) → Bool
unfolding within
form_sound top bottom elements compressibility_points conductivity_points table_points start gravity =
    within flag_limits top && within flag_limits bottom && within element_limits elements &&
    within curve_limits compressibility_points && within curve_limits conductivity_points && within table_limits table_points &&
    within start_limits start && within gravity_limits gravity

-- a closed bottom has level 0
unfoldable pub closed_at_zero : Face → (bottom_level : ℤ) → Bool
closed_at_zero Closed bottom_level = eq_ℤ bottom_level (pos 0)
closed_at_zero (Drained held) bottom_level = true

-- cause 5, of solids and water
abbrev pub heights_sound : (solids water : List ℕ) → Bool
heights_sound solids water = all (within solids_limits) solids && all (within water_limits) water

-- cause 5, of levels, solids and water
unfoldable pub sizes_sound : Site → (water : List ℕ) → Bool
unfolding within_ℤ within closed_at_zero all
sizes_sound site water =
    within_ℤ level_limits site.top_level && within_ℤ level_limits site.bottom_level && closed_at_zero site.bottom site.bottom_level &&
    heights_sound site.solids water

-- a soil and a layer from their parts, and a record: the one place that builds one
abbrev pub soil_of : CurveCounts → (compressibility_void compressibility_stress conductivity_void conductivity : List ℕ) → Soil
soil_of counts compressibility_void compressibility_stress conductivity_void conductivity = record {
  counts = counts;
  compressibility_void = compressibility_void;
  compressibility_stress = compressibility_stress;
  conductivity_void = conductivity_void;
  conductivity = conductivity;
}

abbrev pub layer_of : Frame → Progress → (solids water table_time table_load : List ℕ) → Layer
layer_of frame progress solids water table_time table_load = record {
  frame = frame;
  progress = progress;
  solids = solids;
  water = water;
  table_time = table_time;
  table_load = table_load;
}

abbrev pub record_of : Soil → Layer → Record
record_of soil layer = record { soil = soil; layer = layer }

-- the points of a soil's curves
abbrev pub compressibility_points : Soil → List Point
compressibility_points soil = points soil.counts.compressibility soil.compressibility_void soil.compressibility_stress

abbrev pub conductivity_points : Soil → List Point
conductivity_points soil = points soil.counts.conductivity soil.conductivity_void soil.conductivity

-- what a record holds of a job
unfoldable pub record_site : Record → Site
unfolding first_places points
record_site r = record {
  solids = first_places r.layer.frame.elements r.layer.solids;
  compressibility = compressibility_points r.soil;
  conductivity = conductivity_points r.soil;
  load_table = points r.layer.frame.table_points r.layer.table_time r.layer.table_load;
  top = r.layer.frame.top;
  bottom = r.layer.frame.bottom;
  gravity = r.layer.frame.gravity;
  top_level = r.layer.frame.top_level.0;
  bottom_level = r.layer.frame.bottom_level.0;
}

-- the state of so many elements with water in an array's first places
abbrev pub state_of : (elements : ℕ) (water : List ℕ) → Progress → State
state_of elements water progress = record {
  water = first_places elements water;
  load = progress.load.0;
  clock = progress.clock.0;
  top_outflow = progress.top_outflow.0;
  bottom_outflow = progress.bottom_outflow.0;
}

-- what it holds of a state
unfoldable pub record_state : Record → State
unfolding first_places
record_state r = state_of r.layer.frame.elements r.layer.water r.layer.progress

-- the numbers of a state, as a record holds them
abbrev pub progress_of : State → Progress
progress_of s = record {
  load = pressure s.load;
  clock = record { 0 = s.clock };
  top_outflow = record { 0 = s.top_outflow };
  bottom_outflow = record { 0 = s.bottom_outflow };
}

-- the record with other water and other progress: the one place that replaces its state
abbrev pub with_parts : Record → (water : List ℕ) → Progress → Record
with_parts r water progress =
    let l = r.layer in
    record_of r.soil (layer_of l.frame progress l.solids water l.table_time l.table_load)

-- the record with another state; places past the count are kept
unfoldable pub with_state : Record → State → Record
unfolding overlaid
with_state r s = with_parts r (overlaid s.water r.layer.water) (progress_of s)

-- the record after events: the same record after none
unfoldable pub with_events : Record → List Event → Record
unfolding with_state after_events record_site record_state
with_events r [] = r
with_events r (e ∷ rest) = with_state r (after_events (record_site r) (e ∷ rest) (record_state r))

-- a face is closed, or holds a pressure
unfoldable pub face_holds : Face → Pressure → Bool
face_holds Closed held = true
face_holds (Drained other) held = eq_ℤ other.0 held.0

-- what a record holds of a job meets the causes 3 and 5 to 8, and its faces hold 0 and P
unfoldable pub site_sound : Record → Bool
unfolding record_site record_state form_sound face_number sizes_sound compressibility_sound conductivity_sound table_sound face_holds
    top_pressure bottom_pressure
site_sound r =
    let site = record_site r in
    let frame = r.layer.frame in
    form_sound (face_number frame.top) (face_number frame.bottom) frame.elements r.soil.counts.compressibility
    r.soil.counts.conductivity frame.table_points 0 frame.gravity &&
    sizes_sound site (record_state r).water && compressibility_sound site.compressibility &&
    conductivity_sound site.conductivity site.compressibility && table_sound site.load_table &&
    face_holds frame.top top_pressure && face_holds frame.bottom (bottom_pressure site.top_level site.bottom_level)

-- all its water is on the curve, load and clock keep their limits, the outflows theirs, and the water balances
unfoldable pub state_sound : Record → Bool
unfolding record_site record_state all_on_curve within within_ℤ sum outflow_within
state_sound r =
    let site = record_site r in
    let s = record_state r in
    let starting = r.layer.frame.starting_water in
    all_on_curve (skeleton site) site.solids (map pos s.water) && within_ℤ stress_limits s.load &&
    within clock_limits s.clock && within starting_water_limits starting &&
    outflow_within s.top_outflow s.clock && outflow_within s.bottom_outflow s.clock &&
    eq_ℤ (pos starting) (pos (sum s.water) +ℤ s.top_outflow +ℤ s.bottom_outflow)

-- a record is a layer
unfoldable pub is_layer : Record → Bool
unfolding site_sound state_sound
is_layer r = site_sound r && state_sound r
