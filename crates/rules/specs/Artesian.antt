-- Cases of note 3 of document 02, for a table of their own: one element like the specimen's, the top drained.
use Rattle.std.specs.Prelude.{ℕ, pos, negsuc, true, false, List, [], ◌∷◌, ◌++◌, ◌≡◌}
use Rattle.numbers.specs.Bytes.{bytes}
use Rattle.rules.specs.Specimen.{pair, opening_number}
use Rattle.rules.specs.Steady.{steady_flows}

-- a job whose bottom is closed (0) or drained (1); r is 73,575 where the water is 2,000,000, and p then the load less 5,000,000
unfoldable pub over : (bottom start bottom_level water load : ℕ) → List ℕ
unfolding bytes pair
over bottom start bottom_level water load =
    (76 ∷ 83 ∷ 67 ∷ []) ++ bytes 2 1 ++ (1 ∷ bottom ∷ 1 ∷ 2 ∷ 2 ∷ 1 ∷ start ∷ []) ++ bytes 2 1_000 ++ (0 ∷ 0 ∷ []) ++
    pair 10_000_000 bottom_level ++ pair 100 1 ++ pair 1_000_000 water ++
    pair 5_000_000 200_000_000 ++ pair 105_000_000 100_000_000 ++
    pair 100_000_000 100_000 ++ pair 200_000_000 200_000 ++ pair 0 load

pub record Artesian : Type 0 where
  -- any two flows, and not only neighbours; above and below zero
  pub apart_by_one : steady_flows (pos 0 ∷ pos 1 ∷ pos 0 ∷ []) ≡ true
  pub across_zero : steady_flows (negsuc 0 ∷ pos 0 ∷ pos 1 ∷ []) ≡ false
  pub neighbours_apart_by_one : steady_flows (pos 5 ∷ pos 6 ∷ pos 7 ∷ []) ≡ false
  -- over a closed bottom 1 nm leaves by the top, and 2 nm
  pub closed_bottom_steady : opening_number (over 0 2 0 2_000_000 5_000_147) ≡ 0
  pub closed_bottom_moves : opening_number (over 0 2 0 2_000_000 5_000_148) ≡ 20
  -- 100,501 nm enter by the bottom and 100,500 leave by the top; over 999 s they would differ by 2
  pub drained_bottom_steady : opening_number (over 1 2 1_517_512_029 2_000_000 12_394_288) ≡ 0
  -- 100,502 enter
  pub drained_bottom_moves : opening_number (over 1 2 1_517_515_087 2_000_000 12_394_288) ≡ 20
  -- only start 2 has to be steady; off the curve comes first
  pub given_and_moving : opening_number (over 1 0 1_517_515_087 2_000_000 12_394_288) ≡ 0
  pub off_the_curve : opening_number (over 1 2 1_517_515_087 2_000_001 12_394_288) ≡ 9
  pub no_start_3 : opening_number (over 1 3 1_517_512_029 2_000_000 12_394_288) ≡ 3
  -- start 1 over a level that is 1 nm higher, where P is 0; and with water given
  pub rest_over_another_level : opening_number (over 1 1 10_000_001 0 12_394_288) ≡ 9
  pub rest_with_water : opening_number (over 1 1 10_000_000 2_000_000 12_394_288) ≡ 5
