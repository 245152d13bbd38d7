-- The cases of note 3 hold of the rules.
use mathlib.Core.Path.{refl}
use Rattle.rules.specs.Artesian.{Artesian, over}
use Rattle.rules.specs.Specimen.{opening_number}
use Rattle.rules.specs.Steady.{steady_flows}

pub artesian : Artesian
unfolding over opening_number steady_flows
artesian = record {
  apart_by_one = refl;
  across_zero = refl;
  neighbours_apart_by_one = refl;
  closed_bottom_steady = refl;
  closed_bottom_moves = refl;
  drained_bottom_steady = refl;
  drained_bottom_moves = refl;
  given_and_moving = refl;
  off_the_curve = refl;
  no_start_3 = refl;
  rest_over_another_level = refl;
  rest_with_water = refl;
}
