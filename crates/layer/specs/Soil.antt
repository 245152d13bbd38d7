-- What reading an element needs: two sound curves, and an element on the first.
use Rattle.std.specs.Prelude.{ℕ, ◌≤◌, ◌<◌, ℤ, pos, true, List, ◌≡◌}
use Rattle.laws.specs.Amid.{Between}
use Rattle.laws.specs.Most.{most_burden}
use Rattle.quantities.specs.Quantities.{stress_limits, solids_limits, curve_limits}
use Rattle.rules.specs.Curve.{points, is_on, compressibility_sound, conductivity_sound}
use Rattle.rules.specs.Layer.{skeleton_of, effective_stress}

-- both curves as arrays, with a count of points within its limits
pub record SoilSound (compressibility_points : ℕ) (void stress : List ℕ) (conductivity_points : ℕ) (conductivity_void conductivity : List ℕ) : Type 0 where
  pub compressibility_few : curve_limits.least ≤ compressibility_points
  pub compressibility_many : compressibility_points ≤ curve_limits.most
  pub conductivity_few : curve_limits.least ≤ conductivity_points
  pub conductivity_many : conductivity_points ≤ curve_limits.most
  pub compressibility_is_sound : compressibility_sound (points compressibility_points void stress) ≡ true
  pub conductivity_is_sound : conductivity_sound (points conductivity_points conductivity_void conductivity) (points compressibility_points void stress) ≡ true

-- an element on the curve, with its load and burden in range
pub record OnSoil (compressibility_points : ℕ) (void stress : List ℕ) (load : ℤ) (burden solids water : ℕ) : Type 0 where
  pub load_between : Between (pos 0) (pos stress_limits.most) load
  pub burden_most : burden ≤ most_burden
  pub solids_positive : 0 < solids
  pub solids_most : solids ≤ solids_limits.most
  pub is_on_curve : is_on (effective_stress (skeleton_of (points compressibility_points void stress)) solids water) ≡ true
