use Prim.Native.Nat.{ℕ}
use mathlib.Core.Bool.{true}
use mathlib.Core.Path.{◌≡◌}
use Rattle.curves.proofs.SmoothCurves.{compressibility_smooth, conductivity_smooth}
use Rattle.laws.proofs.Ranges.{conducts}
use Rattle.layer.specs.Soil.{SoilSound}
use Rattle.numbers.proofs.Searches.{passed, is_true}
use Rattle.rules.specs.Curve.{curve_at, is_on}
use Rattle.rules.specs.Record.{compressibility_points, conductivity_points}
use Rattle.rules.specs.declared.record.Soil.{Soil}
use Rattle.working.proofs.SegmentReads.{stands_at}
use Rattle.working.proofs.Storing.{element_stored}
use Rattle.working.proofs.put_element.Goals as goal

-- an abscissa on the first curve is on the second
passed_on : (soil : Soil) (E : ℕ) → SoilSound soil.counts.compressibility soil.compressibility_void soil.compressibility_stress soil.counts.conductivity
    soil.conductivity_void soil.conductivity → is_on (curve_at (compressibility_points soil) E) ≡ true →
    is_on (curve_at (conductivity_points soil) E) ≡ true
passed_on soil E sound first =
    is_true _
    (conducts (conductivity_points soil) (compressibility_points soil) E (passed sound.compressibility_is_sound)
    (passed sound.conductivity_is_sound) (passed first))

pub read_curve-stress-requires : goal.read_curve-stress-requires
read_curve-stress-requires c = let soil = c.args.soil in
    let sound = c.requires.soil_sound in record {
      least_le_count = (sound.compressibility_few, sound.compressibility_many);
      smooth = compressibility_smooth _ _ _ sound.compressibility_is_sound;
      x_value = stands_at (compressibility_points soil) c.args.solids c.args.water c.void_ratio-ratio.ensures c.requires.water_value;
    }

pub read_curve-conductivity-requires : goal.read_curve-conductivity-requires
read_curve-conductivity-requires c = let soil = c.args.soil in
    let sound = c.requires.soil_sound in record {
      least_le_count = (sound.conductivity_few, sound.conductivity_many);
      smooth = conductivity_smooth _ _ _ _ sound.conductivity_is_sound;
      x_value = passed_on soil _ sound (stands_at (compressibility_points soil) c.args.solids c.args.water c.void_ratio-ratio.ensures c.requires.water_value);
    }

pub returns : goal.returns
returns c =
    element_stored c.args.soil c.args.solids c.args.water c.args.after c.args.at c.args.out.now
    c.void_ratio-ratio.ensures c.read_curve-stress.ensures.value c.read_curve-conductivity.ensures.value c.put_three.ensures
    c.put_three-2.ensures c.put_three-3.ensures
