use lib.ListN.{get_or}
use lib.Seq.{sets}
use mathlib.Core.Path.{◌≡◌}
use Rattle.numbers.specs.Arrays.{tabulate}
use Rattle.numbers.specs.Lists.{appended}
use Rattle.working.specs.Working.{element_words}
use Rattle.working.proofs.put_elements.Given as goal

abbrev pub invariant-loop-j : goal.invariant-loop-j
invariant-loop-j l =
    l.out ≡ sets l.initial.out l.at (appended (tabulate l.j (λ i. element_words l.soil (get_or l.solids i 0) (get_or l.water i 0) (get_or l.moved i 0))))
