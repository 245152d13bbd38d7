-- What the causes 3 and 5 to 8 leave of a job's description: a record that meets all tests of a layer that no call changes.
use Prim.Native.Nat.{ℕ, zero, suc, ◌≤◌}
use native.Mathlib.Omega.{arith}
use lib.Dec.{T, eqb, eqb-suc-zero}
use mathlib.Core.Bool.{Bool, true, not}
use mathlib.Core.List.{List}
use Rattle.std.specs.Prelude.{None}
use mathlib.Core.Path.{◌≡◌, refl}
use Rattle.claims.proofs.Causes.{twice_not, neither, none_holds}
use Rattle.claims.proofs.Fixed.{Fixed, sized_dry}
use Rattle.laws.proofs.SoundFields.{sound_fields}
use Rattle.laws.proofs.SoundHeader.{kept_header}
use Rattle.laws.specs.Every.{Every}
use Rattle.numbers.proofs.Equality.{eq_ℤ_refl}
use Rattle.numbers.specs.Integers.{eq_ℤ}
use Rattle.numbers.proofs.Searches.{passed, is_true}
use Rattle.rules.specs.Curve.{compressibility_sound, conductivity_sound}
use Rattle.rules.specs.Job.{Description, field, described, numbered_face, frame_of, job_site, given_water, fields_sound, header_sound, job_causes}
use Rattle.rules.specs.Layer.{top_pressure}
use Rattle.rules.specs.Load.{table_sound}
use Rattle.quantities.specs.Quantities.{flag_limits, element_limits, curve_limits, table_limits, gravity_limits, starting_water_limits}
use Rattle.numbers.specs.Sums.{sum}
use Rattle.rules.specs.Opening.{opened_record}
use Rattle.rules.specs.Record.{form_sound, face_number, sizes_sound, face_holds, record_site}
use Rattle.rules.specs.Refusals.{first_cause}
use Rattle.rules.specs.declared.job.Header.{Header}
use Rattle.quantities.specs.declared.Pressure.{Pressure}
use Rattle.quantities.proofs.Limits.{inside}

-- a job's description meets the tests of a layer
pub record Described (d : Description) : Type 0 where
  pub header : header_sound d.header ≡ true
  pub fields : fields_sound d ≡ true
  pub compressibility : compressibility_sound (job_site d).compressibility ≡ true
  pub conductivity : conductivity_sound (job_site d).conductivity (job_site d).compressibility ≡ true
  pub table : table_sound (job_site d).load_table ≡ true

pub described_sound : (job : List ℕ) → first_cause (job_causes job) ≡ None → Described (described job)
unfolding job_causes Every
described_sound job e =
    let d = described job in
    let held = (none_holds (job_causes job) e).1.1 in
    let true_of : (b : Bool) → T (not (not b)) → b ≡ true = λ b t. is_true b (twice_not b t) in
    let later = held.1.1 in
    record {
      header = true_of (header_sound d.header) (neither (not (header_sound d.header)) (not (eqb (field 2 14 job) 0)) held.0).0;
      fields = true_of (fields_sound d) later.0;
      compressibility = true_of (compressibility_sound (job_site d).compressibility) later.1.0;
      conductivity = true_of (conductivity_sound (job_site d).conductivity (job_site d).compressibility) later.1.1.0;
      table = true_of (table_sound (job_site d).load_table) later.1.1.1.0;
    }

-- ---- the record is a layer

-- a face has the number that it was made of
face_number_lem : (n : ℕ) (held : Pressure) → n ≤ 1 → face_number (numbered_face n held) ≡ n
unfolding face_number numbered_face
face_number_lem zero held h = refl
face_number_lem (suc n) held h = rw (eqb-suc-zero n, numbered_face) (omega arith)

-- and holds what it was given
face_holds_lem : (n : ℕ) (held : Pressure) → face_holds (numbered_face n held) held ≡ true
unfolding face_holds numbered_face
face_holds_lem zero held = refl
face_holds_lem (suc n) held = rw (eqb-suc-zero n, numbered_face) (is_true (eq_ℤ held.0 held.0) (eq_ℤ_refl held.0))

-- the header of the record, whose faces are numbered anew and which has no start
header_again : (h : Header) (held held' : Pressure) → header_sound h ≡ true →
    form_sound (face_number (numbered_face h.top held)) (face_number (numbered_face h.bottom held')) h.elements h.compressibility_points
    h.conductivity_points h.table_points 0 h.gravity ≡ true
unfolding form_sound
header_again h held held' e =
    let s = kept_header h e in
    rw (
      face_number_lem h.top held s.top_kept.most,
      face_number_lem h.bottom held' s.bottom_kept.most,
      inside flag_limits h.top s.top_kept.least s.top_kept.most,
      inside flag_limits h.bottom s.bottom_kept.least s.bottom_kept.most,
      inside element_limits h.elements s.elements_kept.least s.elements_kept.most,
      inside curve_limits h.compressibility_points s.compressibility_kept.least s.compressibility_kept.most,
      inside curve_limits h.conductivity_points s.conductivity_kept.least s.conductivity_kept.most,
      inside table_limits h.table_points s.table_kept.least s.table_kept.most,
      inside gravity_limits h.gravity s.gravity_kept.least s.gravity_kept.most,
    )

module _ (d : Description) (s : Described d) where
  sized : T (sizes_sound (job_site d) (given_water d))
  sized = passed (sound_fields d s.fields).sizes

  pub fixed_opened : (water : List ℕ) → sum water ≤ starting_water_limits.most → Fixed (opened_record d water)
  unfolding opened_record frame_of job_site record_site
  fixed_opened water h = record {
    header = header_again d.header top_pressure _ s.header;
    sizes = is_true _ (sized_dry (job_site d) (given_water d) sized);
    compressibility = s.compressibility;
    conductivity = s.conductivity;
    table = s.table;
    top = face_holds_lem d.header.top top_pressure;
    bottom = face_holds_lem d.header.bottom _;
    starting = inside starting_water_limits (sum water) (omega arith) h;
  }
