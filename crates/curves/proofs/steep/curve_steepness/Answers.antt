use native.Mathlib.Omega.{arith}
use Rattle.rules.proofs.Sound.{compressible}
use Rattle.curves.proofs.steep.curve_steepness.Goals as goal

pub segment_steepness-one-requires : goal.segment_steepness-one-requires
segment_steepness-one-requires c =
    let k = compressible _ _ _ c.requires.stress_value in record {
      void1_lt_void0 = grind (arith, k.void_falls, k.stress_rises);
      void0_le_most = grind (arith, k.void_high, k.stress_high);
    }
