-- The cases of note 4 hold of the rules.
use mathlib.Core.Path.{refl}
use Rattle.rules.specs.Artesian.{over}
use Rattle.rules.specs.Curve.{curve_at, segment_at, curve_remainder}
use Rattle.rules.specs.Division.{open_faces}
use Rattle.rules.specs.LongDivision.{LongDivision, flows_from, remainders_from}
use Rattle.rules.specs.Specimen.{specimen}

pub long_division : LongDivision
unfolding open_faces flows_from remainders_from specimen over curve_at segment_at curve_remainder
long_division = record {
  all_faces = refl;
  closed_bottom = refl;
  closed_top = refl;
  no_face = refl;
  five_seconds = refl;
  five_seconds_leave = refl;
  specimen_flows = refl;
  specimen_leaves = refl;
  artesian_flows = refl;
  artesian_leaves = refl;
  first_segment = refl;
  first_found = refl;
  first_leaves = refl;
  second_segment = refl;
  second_found = refl;
  second_leaves = refl;
  shared_found = refl;
}
