-- What a sound header says of its numbers.
use Prim.Native.Nat.{ℕ, ◌≤◌}
use lib.Dec.{T, leb, leb→le}
use mathlib.Core.Bool.{true, ◌&&◌}
use mathlib.Core.Path.{◌≡◌}
use Rattle.numbers.proofs.Searches.{passed, both}
use Rattle.quantities.specs.Quantities.{within, flag_limits, start_limits, element_limits, curve_limits, table_limits, gravity_limits}
use Rattle.quantities.specs.declared.quantity.Limits.{Limits}
use Rattle.rules.specs.Job.{header_sound}
use Rattle.rules.specs.Record.{form_sound}
use Rattle.rules.specs.declared.job.Header.{Header}

-- a number keeps limits
pub record Kept (limits : Limits) (n : ℕ) : Type 0 where
  pub least : limits.least ≤ n
  pub most : n ≤ limits.most

kept : (limits : Limits) (n : ℕ) → T (within limits n) → Kept limits n
unfolding within
kept limits n t = let (low, high) = both (leb limits.least n) (leb n limits.most) t in record { least = leb→le _ _ low; most = leb→le _ _ high }

-- the numbers of a header keep theirs
pub record SoundHeader
    (top bottom elements compressibility_points conductivity_points table_points start gravity : ℕ) : Type 0 where
  pub top_kept : Kept flag_limits top
  pub bottom_kept : Kept flag_limits bottom
  pub elements_kept : Kept element_limits elements
  pub compressibility_kept : Kept curve_limits compressibility_points
  pub conductivity_kept : Kept curve_limits conductivity_points
  pub table_kept : Kept table_limits table_points
  pub start_kept : Kept start_limits start
  pub gravity_kept : Kept gravity_limits gravity

pub sound_header : (top bottom elements compressibility_points conductivity_points table_points start gravity : ℕ) →
    form_sound top bottom elements compressibility_points conductivity_points table_points start gravity ≡ true →
    SoundHeader top bottom elements compressibility_points conductivity_points table_points start gravity
unfolding form_sound
sound_header top bottom elements compressibility_points conductivity_points table_points start gravity e =
    let two = within flag_limits top && within flag_limits bottom in
    let three = two && within element_limits elements in
    let four = three && within curve_limits compressibility_points in
    let five = four && within curve_limits conductivity_points in
    let six = five && within table_limits table_points in
    let seven = six && within start_limits start in
    let (first7, gravity_kept) = both seven (within gravity_limits gravity) (passed e) in
    let (first6, start_kept) = both six (within start_limits start) first7 in
    let (first5, table_kept) = both five (within table_limits table_points) first6 in
    let (first4, conductivity_kept) = both four (within curve_limits conductivity_points) first5 in
    let (first3, compressibility_kept) = both three (within curve_limits compressibility_points) first4 in
    let (first2, elements_kept) = both two (within element_limits elements) first3 in
    let (top_kept, bottom_kept) = both (within flag_limits top) (within flag_limits bottom) first2 in
    record {
      top_kept = kept _ _ top_kept;
      bottom_kept = kept _ _ bottom_kept;
      elements_kept = kept _ _ elements_kept;
      compressibility_kept = kept _ _ compressibility_kept;
      conductivity_kept = kept _ _ conductivity_kept;
      table_kept = kept _ _ table_kept;
      start_kept = kept _ _ start_kept;
      gravity_kept = kept _ _ gravity_kept;
    }

-- those of a header that cause 3 does not refuse
pub kept_header : (h : Header) → header_sound h ≡ true →
    SoundHeader h.top h.bottom h.elements h.compressibility_points h.conductivity_points h.table_points h.start h.gravity
unfolding header_sound
kept_header h e =
    sound_header h.top h.bottom h.elements h.compressibility_points h.conductivity_points h.table_points h.start
    h.gravity e
