-- Cases of note 4 of document 02, for a table of their own: the long division at a layer's faces and on a curve.
use Rattle.std.specs.Prelude.{ℕ, ℤ, pos, negsuc, List, [], ◌∷◌, map, ◌≡◌}
use Rattle.quantities.specs.Quantities.{pressure}
use Rattle.std.specs.Prelude.{Some}
use Rattle.quantities.specs.declared.Face.{Face}
use Rattle.quantities.specs.declared.Face.TheVariants.{Closed, Drained}
use Rattle.rules.specs.Artesian.{over}
use Rattle.rules.specs.Curve.{Point, point, curve_at, segment_at, curve_remainder}
use Rattle.rules.specs.Division.{open_faces, flow_at, remainder_at, face_flows, face_remainders}
use Rattle.rules.specs.Layer.{Element}
use Rattle.rules.specs.Record.{record_site, record_state}
use Rattle.rules.specs.Specimen.{specimen, opened_from}
use Rattle.rules.specs.declared.faces.OpenFace.{OpenFace}

abbrev pub element : (excess : ℤ) (resistance : ℕ) → Element
element excess resistance = record { excess = excess; resistance = resistance; sensitivity = 0 }

abbrev pub open_face : (difference : ℤ) (resistance : ℕ) → OpenFace
open_face difference resistance = record { difference = difference; resistance = resistance }

-- three elements, from the lowest up: p of 10, -4 and 7
abbrev pub three : List Element
three = element (pos 10) 3 ∷ element (negsuc 3) 4 ∷ element (pos 7) 6 ∷ []

-- a top that holds 0 and a bottom that holds 12
abbrev pub above : Face
above = Drained (pressure (pos 0))

abbrev pub below : Face
below = Drained (pressure (pos 12))

unfoldable pub flows_from : (job : List ℕ) (t : ℕ) → List ℤ
unfolding face_flows record_site record_state opened_from
flows_from job t = face_flows (record_site (opened_from job)) (record_state (opened_from job)) t

unfoldable pub remainders_from : (job : List ℕ) (t : ℕ) → List ℤ
unfolding face_remainders record_site record_state opened_from
remainders_from job t = face_remainders (record_site (opened_from job)) (record_state (opened_from job)) t

-- a curve of two segments, which share the point at 150
abbrev pub two_segments : List Point
two_segments = point 200 5 ∷ point 150 12 ∷ point 100 33 ∷ []

pub record LongDivision : Type 0 where
  -- from the bottom up: outward at the bottom and at the top, upward between
  pub all_faces : open_faces above below three ≡ open_face (negsuc 1) 3 ∷ open_face (pos 14) 7 ∷ open_face (negsuc 10) 10 ∷ open_face (pos 7) 6 ∷ []
  -- a closed face has no entry
  pub closed_bottom : open_faces above Closed three ≡ open_face (pos 14) 7 ∷ open_face (negsuc 10) 10 ∷ open_face (pos 7) 6 ∷ []
  pub closed_top : open_faces Closed below three ≡ open_face (negsuc 1) 3 ∷ open_face (pos 14) 7 ∷ open_face (negsuc 10) 10 ∷ []
  pub no_face : open_faces Closed Closed (element (pos 10) 3 ∷ []) ≡ []
  -- -10 = -3 × 3 - 1, 70 = 10 × 7, -55 = -5 × 10 - 5, 35 = 5 × 6 + 5
  pub five_seconds : map (flow_at 5) (open_faces above below three) ≡ negsuc 2 ∷ pos 10 ∷ negsuc 4 ∷ pos 5 ∷ []
  pub five_seconds_leave : map (remainder_at 5) (open_faces above below three) ≡ negsuc 0 ∷ pos 0 ∷ negsuc 4 ∷ pos 5 ∷ []
  -- case 2 of the specimen: 1,000,000,000 = 13,591 × 73,575 + 42,175 at the top
  pub specimen_flows : flows_from specimen 100 ≡ pos 0 ∷ pos 13_591 ∷ []
  pub specimen_leaves : remainders_from specimen 100 ≡ pos 0 ∷ pos 42_175 ∷ []
  -- note 3's layer over an artesian bottom: what enters there goes out by less than 0
  pub artesian_flows : flows_from (over 1 2 1_517_512_029 2_000_000 12_394_288) 1_000 ≡ negsuc 100_500 ∷ pos 100_500 ∷ []
  pub artesian_leaves : remainders_from (over 1 2 1_517_512_029 2_000_000 12_394_288) 1_000 ≡ negsuc 43_924 ∷ pos 500 ∷ []
  -- 7 × 20 = 2 × 50 + 40 on the first segment, 21 × 20 = 8 × 50 + 20 on the second; of two that share a point the first counts
  pub first_segment : curve_at two_segments 180 ≡ Some 7
  pub first_found : segment_at two_segments 180 ≡ 0
  pub first_leaves : curve_remainder two_segments 180 ≡ 40
  pub second_segment : curve_at two_segments 130 ≡ Some 20
  pub second_found : segment_at two_segments 130 ≡ 1
  pub second_leaves : curve_remainder two_segments 130 ≡ 20
  pub shared_found : segment_at two_segments 150 ≡ 0
