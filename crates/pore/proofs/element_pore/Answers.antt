use borrow.Author.Rules.{rules}
use native.Mathlib.Omega.{arith}
use mathlib.Core.Path.{refl}
use Rattle.lent.proofs.Standing.{site_is, counted, weighted, solid, soil}
use Rattle.lent.proofs.StepLaws.{on_soil_as}
use Rattle.numbers.specs.Arrays.{zeros}
use Rattle.pore.proofs.Heights.{pore_by_arrays}
use Rattle.quantities.proofs.Limits.{inside_signed}
use Rattle.pore.proofs.element_pore.Goals as goal

pub burdens-requires : goal.burdens-requires
burdens-requires c =
    let is = c.requires.r_value in
    record {
      elements_le_most = (counted _ is).1;
      least_le_gravity = weighted _ is;
      by_index = λ j h. (solid _ is j h).1;
      burden_len = refl;
    }

pub pore_over-requires : goal.pore_over-requires
unfolding zeros
pore_over-requires c =
    let is = c.requires.r_value in
    let sizes = (site_is _ is).sizes in
    let sound = soil _ is in
    record {
      index_lt_most = (omega (arith, (counted _ is).1), search (rules, inside_signed));
      least_le_points = (sound.compressibility_few, sound.compressibility_many);
      stress_value = sound.compressibility_is_sound;
      by_index = λ j h. on_soil_as _ is c.burdens.ensures j (omega arith);
    }

pub returns-clause-value : goal.returns-clause-value
unfolding zeros
returns-clause-value c =
    let by_arrays = pore_by_arrays _ c.requires.r_value c.args.index c.requires.index_lt_elements in search rules
