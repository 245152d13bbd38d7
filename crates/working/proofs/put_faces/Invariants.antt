use lib.Seq.{sets}
use mathlib.Core.Path.{◌≡◌}
use Rattle.numbers.specs.Arrays.{tabulate}
use Rattle.numbers.specs.Lists.{appended}
use Rattle.working.specs.FacesIn.{words_of_face}
use Rattle.working.proofs.put_faces.Given as goal

abbrev pub invariant-loop-k : goal.invariant-loop-k
invariant-loop-k l =
    l.out ≡ sets l.initial.out 2 (appended (tabulate l.k (words_of_face l.t l.elements l.top l.bottom l.excess l.resistance)))
