-- Sound curves are smooth.
use Prim.Native.Nat.{ℕ}
use native.Mathlib.Nat.{le_of_lt, le_trans}
use native.Mathlib.Omega.{arith}
use lib.Dec.{lit≤}
use mathlib.Core.Bool.{true}
use mathlib.Core.List.{List}
use mathlib.Core.Path.{◌≡◌}
use Rattle.curves.specs.Smooth.{Smooth}
use Rattle.laws.proofs.Rising.{rising_way, falling_way}
use Rattle.rules.specs.Curve.{Point, points, compressibility_sound, conductivity_sound}
use Rattle.rules.proofs.Sound.{compressible, falls_down, conductive, rises_up}

pub compressibility_smooth : (n : ℕ) (void stress : List ℕ) → compressibility_sound (points n void stress) ≡ true → Smooth n void stress
compressibility_smooth n void stress sound =
    let k = compressible n void stress sound in
    record {
      one_way = (falling_way (points n void stress) (falls_down n void stress sound)).1;
      apart = λ i h. omega (arith, k.void_falls i h);
      higher = λ i h. le_of_lt (k.stress_rises i h);
      abscissa_most = k.void_high;
      ordinate_most = k.stress_high;
    }

pub conductivity_smooth : (n : ℕ) (void conductivity : List ℕ) (first : List Point) →
    conductivity_sound (points n void conductivity) first ≡ true → Smooth n void conductivity
conductivity_smooth n void conductivity first sound =
    let k = conductive n void conductivity first sound in
    record {
      one_way = (rising_way (points n void conductivity) (rises_up n void conductivity first sound)).1;
      apart = λ i h. omega (arith, k.void_rises i h);
      higher = k.never_falls;
      abscissa_most = k.void_high;
      ordinate_most = λ i h. le_trans (k.conductivity_high i h) (lit≤ tt);
    }
