use native.Mathlib.Omega.{arith}
use mathlib.Core.Path.{refl}
use Rattle.lent.proofs.LayerReads.{waters_most}
use Rattle.lent.proofs.Standing.{solid, soil, stands}
use Rattle.working.proofs.Storing.{stored_none, stored_more, stored_all}
use Rattle.working.specs.Working.{elements_words}
use Rattle.working.proofs.put_elements.Goals as goal

pub loop-j-init : goal.loop-j-init
loop-j-init c = stored_none 9 _ (λ i. refl) _ _

pub put_element-requires-clause-soil_sound : goal.put_element-requires-clause-soil_sound
put_element-requires-clause-soil_sound c = soil c.args.r c.requires.r_value

pub put_element-requires-clause-solids_nonzero : goal.put_element-requires-clause-solids_nonzero
put_element-requires-clause-solids_nonzero c =
    let r = c.args.r in
    let is = c.requires.r_value in
    ((solid r is c.loop-j.j c.loop-j-test.true).0, waters_most r is c.loop-j.j c.loop-j-test.true)

pub put_element-requires-clause-water_value : goal.put_element-requires-clause-water_value
put_element-requires-clause-water_value c = stands c.args.r c.requires.r_value c.loop-j.j c.loop-j-test.true

pub loop-j-preserved : goal.loop-j-preserved
loop-j-preserved c = stored_more 9 _ (λ i. refl) _ _ c.loop-j.j c.loop-j.invariant c.put_element.ensures

pub returns : goal.returns
unfolding elements_words
returns c = stored_all 9 _ (λ i. refl) _ _ c.loop-j.j c.args.r.layer.frame.elements c.loop-j.invariant (omega arith)
