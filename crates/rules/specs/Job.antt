-- The job's bytes: what they say, and the causes 1 to 8 for which they are refused.
use Rattle.std.specs.Prelude.{ℕ, ◌+◌, ◌*◌, ltb, eqb, pos, length, get_or, Bool, true, false, not, ◌&&◌, ◌||◌, List, [], ◌∷◌, ◌++◌}
use Rattle.numbers.specs.Arrays.{first_places, filled, zeros}
pub use Rattle.numbers.specs.Bytes.{field}
use Rattle.numbers.specs.Bytes.{column}
use Rattle.numbers.specs.Lists.{all}
use Rattle.quantities.specs.Quantities.{within, clock_limits, budget_limits, head}
use Rattle.rules.specs.Curve.{points, compressibility_sound, conductivity_sound}
use Rattle.rules.specs.Layer.{Site, top_pressure, bottom_pressure}
use Rattle.rules.specs.Load.{table_sound}
use Rattle.rules.specs.Record.{form_sound, sizes_sound}
use Rattle.rules.specs.Refusals.{Trial, ◌if◌}
use Rattle.rules.specs.declared.answers.Refusal.TheVariants.{ShortOrUnmarked, OtherVersion, HeaderOutside, WrongLength, FieldOutside, CompressibilityCurve, ConductivityCurve, LoadTable}
use Rattle.rules.specs.declared.job.Header.{Header}
use Rattle.quantities.specs.declared.Face.{Face}
use Rattle.quantities.specs.declared.Face.TheVariants.{Closed, Drained}
use Rattle.quantities.specs.declared.Pressure.{Pressure}
use Rattle.rules.specs.declared.record.CurveCounts.{CurveCounts}
use Rattle.rules.specs.declared.record.Frame.{Frame}

-- L S C
unfoldable pub marked : List ℕ → Bool
marked job = eqb (get_or job 0 0) 76 && eqb (get_or job 1 0) 83 && eqb (get_or job 2 0) 67

abbrev pub header_length : ℕ
header_length = 48

-- the length of each pair of 64-bit fields
abbrev pub pair_length : ℕ
pair_length = 16

-- an array of the first, or of the second, fields of pairs that begin at an offset
unfoldable pub firsts : (size offset count : ℕ) → List ℕ → List ℕ
unfolding filled zeros column
firsts size offset count job = filled (zeros size) count (column pair_length offset job)

unfoldable pub seconds : (size offset count : ℕ) → List ℕ → List ℕ
unfolding firsts
seconds size offset count job = firsts size (offset + 8) count job

-- what a job's bytes say, or a description that has no bytes: the numbers of a header, and the fields of pairs. Array places past a
-- count are 0 where bytes say it, and do not matter
pub record Description : Type 0 where
  pub header : Header
  pub solids : List ℕ
  pub water : List ℕ
  pub compressibility_void : List ℕ
  pub compressibility_stress : List ℕ
  pub conductivity_void : List ℕ
  pub conductivity : List ℕ
  pub table_time : List ℕ
  pub table_load : List ℕ

-- that of a job, once cause 3 is tested
unfoldable pub described : List ℕ → Description
unfolding field firsts seconds
described job =
    let elements = field 1 7 job in
    let compressibility_points = field 1 8 job in
    let conductivity_points = field 1 9 job in
    let table_points = field 1 10 job in
    let compressibility_at = header_length + pair_length * elements in
    let conductivity_at = compressibility_at + pair_length * compressibility_points in
    let table_at = conductivity_at + pair_length * conductivity_points in
    record {
      header = record {
        top = field 1 5 job;
        bottom = field 1 6 job;
        elements = elements;
        compressibility_points = compressibility_points;
        conductivity_points = conductivity_points;
        table_points = table_points;
        start = field 1 11 job;
        gravity = field 2 12 job;
        top_level = field 8 16 job;
        bottom_level = field 8 24 job;
        end = field 8 32 job;
        budget = field 8 40 job;
      };
      solids = firsts 128 header_length elements job;
      water = seconds 128 header_length elements job;
      compressibility_stress = firsts 64 compressibility_at compressibility_points job;
      compressibility_void = seconds 64 compressibility_at compressibility_points job;
      conductivity_void = firsts 64 conductivity_at conductivity_points job;
      conductivity = seconds 64 conductivity_at conductivity_points job;
      table_time = firsts 64 table_at table_points job;
      table_load = seconds 64 table_at table_points job;
    }

-- the face that a number says: 0 is closed
unfoldable pub numbered_face : (number : ℕ) (held : Pressure) → Face
numbered_face number held = elim (eqb number 0) [ true ↦ Closed | false ↦ Drained held ]

-- how many points its curves have
abbrev pub counts_of : Header → CurveCounts
counts_of h = record { compressibility = h.compressibility_points; conductivity = h.conductivity_points }

-- its numbers that no call changes, with the starting water
unfoldable pub frame_of : Header → (starting_water : ℕ) → Frame
unfolding numbered_face top_pressure bottom_pressure
frame_of h starting_water = record {
  top = numbered_face h.top top_pressure;
  bottom = numbered_face h.bottom (bottom_pressure (pos h.top_level) (pos h.bottom_level));
  elements = h.elements;
  table_points = h.table_points;
  gravity = h.gravity;
  top_level = head (pos h.top_level);
  bottom_level = head (pos h.bottom_level);
  starting_water = starting_water;
}

-- what a description fixes for good
unfoldable pub job_site : Description → Site
unfolding first_places points numbered_face top_pressure bottom_pressure
job_site d =
    let h = d.header in
    record {
      solids = first_places h.elements d.solids;
      compressibility = points h.compressibility_points d.compressibility_void d.compressibility_stress;
      conductivity = points h.conductivity_points d.conductivity_void d.conductivity;
      load_table = points h.table_points d.table_time d.table_load;
      top = numbered_face h.top top_pressure;
      bottom = numbered_face h.bottom (bottom_pressure (pos h.top_level) (pos h.bottom_level));
      gravity = h.gravity;
      top_level = pos h.top_level;
      bottom_level = pos h.bottom_level;
    }

-- the water heights that it gives
unfoldable pub given_water : Description → List ℕ
unfolding first_places
given_water d = first_places d.header.elements d.water

-- cause 5: level, end, budget, solids and water keep their limits, and only in start 1 is no water given
unfoldable pub fields_sound : Description → Bool
unfolding sizes_sound job_site given_water within all
fields_sound d =
    sizes_sound (job_site d) (given_water d) && within clock_limits d.header.end && within budget_limits d.header.budget &&
    (not (eqb d.header.start 1) || all (λ w. eqb w 0) (given_water d))

-- the length of a job with so many elements and points
unfoldable pub job_length : Header → ℕ
job_length h =
    header_length + pair_length * (h.elements + h.compressibility_points + h.conductivity_points + h.table_points)

-- cause 3, of a header: bytes 5 to 13
unfoldable pub header_sound : Header → Bool
unfolding form_sound
header_sound h =
    form_sound h.top h.bottom h.elements h.compressibility_points h.conductivity_points h.table_points h.start
    h.gravity

-- the causes 1 to 4, of a job's bytes
unfoldable pub framing_causes : List ℕ → List Trial
unfolding described marked field header_sound job_length
framing_causes job =
    let h = (described job).header in
    (ShortOrUnmarked if (ltb (length job) header_length || not (marked job))) ∷
    (OtherVersion if not (eqb (field 2 3 job) 1)) ∷
    (HeaderOutside if (not (header_sound h) || not (eqb (field 2 14 job) 0))) ∷
    (WrongLength if not (eqb (length job) (job_length h))) ∷ []

-- the causes 5 to 8, of what they say
unfoldable pub described_causes : Description → List Trial
unfolding fields_sound job_site compressibility_sound conductivity_sound table_sound
described_causes d =
    let site = job_site d in
    (FieldOutside if not (fields_sound d)) ∷
    (CompressibilityCurve if not (compressibility_sound site.compressibility)) ∷
    (ConductivityCurve if not (conductivity_sound site.conductivity site.compressibility)) ∷
    (LoadTable if not (table_sound site.load_table)) ∷ []

-- the causes 1 to 8 of a job, in their order
unfoldable pub job_causes : List ℕ → List Trial
unfolding framing_causes described described_causes
job_causes job = framing_causes job ++ described_causes (described job)
