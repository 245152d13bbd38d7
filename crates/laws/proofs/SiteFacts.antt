-- What a sound site says of a record.
use lib.Dec.{lit<, lit≤}
use lib.IntN.{ℤ, pos, ◌-ℤ◌}
use mathlib.Core.Bool.{Bool, true, ◌&&◌}
use mathlib.Core.Path.{◌≡◌, refl}
use Rattle.laws.proofs.SoundHeader.{SoundHeader, sound_header}
use Rattle.laws.specs.Amid.{Between}
use Rattle.laws.specs.Faces.{HeldWithin, Holds}
use Rattle.numbers.proofs.Equality.{eqℤ→eq}
use Rattle.numbers.specs.Interval.{Within}
use Rattle.numbers.proofs.Interval.{intervals, within_pos, within_le, within-mul, within-cut}
use Rattle.numbers.proofs.Searches.{passed, seven, is_true}
use Rattle.numbers.proofs.Signed.{one_sided, sub_parts}
use Rattle.rules.specs.Curve.{points, compressibility_sound, conductivity_sound}
use Rattle.rules.specs.Layer.{top_pressure, bottom_pressure}
use Rattle.rules.specs.Load.{table_sound}
use Rattle.quantities.specs.Quantities.{level_limits, pressure_of, most_head_pressure}
use Rattle.rules.specs.Record.{form_sound, face_number, sizes_sound, face_holds, record_site, record_state, site_sound}
use Rattle.quantities.specs.declared.Face.{Face}
use Rattle.quantities.specs.declared.Face.TheVariants.{Closed, Drained}
use Rattle.quantities.specs.declared.Pressure.{Pressure}
use Rattle.rules.specs.declared.record.Record.{Record}
use Rattle.laws.proofs.Sizes.{SoundSizes, sound_sizes}

-- the parts of a sound site
pub record SiteParts (r : Record) : Type 0 where
  pub header : form_sound (face_number r.layer.frame.top) (face_number r.layer.frame.bottom) r.layer.frame.elements r.soil.counts.compressibility r.soil.counts.conductivity r.layer.frame.table_points 0 r.layer.frame.gravity ≡ true
  pub sizes : sizes_sound (record_site r) (record_state r).water ≡ true
  pub compressibility : compressibility_sound (record_site r).compressibility ≡ true
  pub conductivity : conductivity_sound (record_site r).conductivity (record_site r).compressibility ≡ true
  pub table : table_sound (record_site r).load_table ≡ true
  pub top : face_holds r.layer.frame.top top_pressure ≡ true
  pub bottom : face_holds r.layer.frame.bottom (bottom_pressure (record_site r).top_level (record_site r).bottom_level) ≡ true

-- a sound site by the tests of its parts
pub site_by : (r : Record) {a b c d t top bottom : Bool} →
    form_sound (face_number r.layer.frame.top) (face_number r.layer.frame.bottom) r.layer.frame.elements r.soil.counts.compressibility r.soil.counts.conductivity r.layer.frame.table_points 0 r.layer.frame.gravity ≡ a →
    sizes_sound (record_site r) (record_state r).water ≡ b → compressibility_sound (record_site r).compressibility ≡ c →
    conductivity_sound (record_site r).conductivity (record_site r).compressibility ≡ d → table_sound (record_site r).load_table ≡ t →
    face_holds r.layer.frame.top top_pressure ≡ top → face_holds r.layer.frame.bottom (bottom_pressure (record_site r).top_level (record_site r).bottom_level) ≡ bottom →
    site_sound r ≡ (a && b && c && d && t && top && bottom)
unfolding site_sound
site_by r e₁ e₂ e₃ e₄ e₅ e₆ e₇ = rw (e₁, e₂, e₃, e₄, e₅, e₆, e₇) refl

pub site_parts : (r : Record) → site_sound r ≡ true → SiteParts r
unfolding site_sound
site_parts r e =
    let site = record_site r in
    let a = form_sound (face_number r.layer.frame.top) (face_number r.layer.frame.bottom) r.layer.frame.elements r.soil.counts.compressibility r.soil.counts.conductivity r.layer.frame.table_points 0 r.layer.frame.gravity in
    let b = sizes_sound site (record_state r).water in
    let c = compressibility_sound site.compressibility in
    let d = conductivity_sound site.conductivity site.compressibility in
    let t = table_sound site.load_table in
    let top = face_holds r.layer.frame.top top_pressure in
    let bottom = face_holds r.layer.frame.bottom (bottom_pressure site.top_level site.bottom_level) in
    let (headed, sized, compressing, conducting, tabled, at_top, at-bottom) = seven a b c d t top bottom (passed e) in
    record {
      header = is_true a headed;
      sizes = is_true b sized;
      compressibility = is_true c compressing;
      conductivity = is_true d conducting;
      table = is_true t tabled;
      top = is_true top at_top;
      bottom = is_true bottom at-bottom;
    }

-- a face that holds a pressure in range
held-within : (face : Face) (held : Pressure) → Within held.0 most_head_pressure → face_holds face held ≡ true → HeldWithin face
unfolding face_holds Holds
held-within Closed held h e = tt
held-within (Drained other) held h e = rw (eqℤ→eq other.0 held.0 (passed e)) h

-- P between two levels is in range
pub bottom_within : (top bottom : ℤ) → Between (pos 0) (pos level_limits.most) top → Between (pos 0) (pos level_limits.most) bottom →
    Within (bottom_pressure top bottom).0 most_head_pressure
unfolding bottom_pressure pressure_of
bottom_within top bottom t b =
    let difference : Within (bottom -ℤ top) level_limits.most = omega (intervals, one_sided (bottom -ℤ top), sub_parts bottom top, t.0, t.1, b.0, b.1) in
    within-cut {b = 100_000} (lit< tt) (within-mul difference (within_pos 981))

-- what a sound site says
pub record SiteFacts (r : Record) : Type 0 where
  pub header : SoundHeader (face_number r.layer.frame.top) (face_number r.layer.frame.bottom) r.layer.frame.elements r.soil.counts.compressibility r.soil.counts.conductivity r.layer.frame.table_points 0 r.layer.frame.gravity
  pub sizes : SoundSizes r.layer.frame.elements r.layer.frame.top_level.0 r.layer.frame.bottom_level.0 r.layer.solids r.layer.water
  pub compressibility : compressibility_sound (points r.soil.counts.compressibility r.soil.compressibility_void r.soil.compressibility_stress) ≡ true
  pub conductivity : conductivity_sound (points r.soil.counts.conductivity r.soil.conductivity_void r.soil.conductivity) (points r.soil.counts.compressibility r.soil.compressibility_void r.soil.compressibility_stress) ≡ true
  pub table : table_sound (points r.layer.frame.table_points r.layer.table_time r.layer.table_load) ≡ true
  pub top_held : HeldWithin r.layer.frame.top
  pub bottom_held : HeldWithin r.layer.frame.bottom

pub site_facts : (r : Record) → site_sound r ≡ true → SiteFacts r
unfolding record_site record_state top_pressure
site_facts r e =
    let p = site_parts r e in
    let sizes = sound_sizes (record_site r) r.layer.frame.elements r.layer.solids r.layer.water refl p.sizes in
    record {
      header = sound_header _ _ _ _ _ _ _ _ p.header;
      sizes = sizes;
      compressibility = p.compressibility;
      conductivity = p.conductivity;
      table = p.table;
      top_held = held-within r.layer.frame.top top_pressure (within_le (within_pos 0) (lit≤ tt)) p.top;
      bottom_held = held-within r.layer.frame.bottom _ (bottom_within _ _ sizes.top_level_kept sizes.bottom_level_kept) p.bottom;
    }
