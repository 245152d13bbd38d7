use borrow.Author.Rules.{rules}
use Rattle.numbers.specs.Arrays.{tabulate, first_places}
use Rattle.numbers.specs.Sums.{sum}
use Rattle.result_elements.proofs.Elements.{height_of, height_more, elements_stored}
use Rattle.result_elements.proofs.Ranges.{water_most}
use Rattle.rules.specs.Result.{elements_bytes}
use native.Mathlib.Omega.{arith}
use Rattle.result_elements.proofs.write_elements.Goals as goal

pub loop-j-init : goal.loop-j-init
unfolding first_places tabulate elements_bytes height_of sum
loop-j-init c = search rules

pub overflow_add-below : goal.overflow_add-below
overflow_add-below c =
    let on = c.requires.by_index c.loop-j.j (omega arith) in
    let water = water_most _ _ _ c.requires.stress_value _ _ _ _ on in search rules

pub overflow_add-below-in-loop-j : goal.overflow_add-below-in-loop-j
overflow_add-below-in-loop-j c =
    let on = c.requires.by_index c.loop-j.j (omega arith) in
    let water = water_most _ _ _ c.requires.stress_value _ _ _ _ on in search rules

pub loop-j-preserved : goal.loop-j-preserved
loop-j-preserved c =
    let on = c.requires.by_index c.loop-j.j (omega arith) in
    let water = water_most _ _ _ c.requires.stress_value _ _ _ _ on in search (rules, elements_stored, height_more)
