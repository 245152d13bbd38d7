use lib.Seq.{sets}
use mathlib.Core.Path.{◌≡◌}
use Rattle.field_data.proofs.WordLaws.{first_answers}
use Rattle.field_data.specs.Words.{compared_in}
use Rattle.field_data.proofs.answer_readings.Given as goal

abbrev pub invariant-loop-i : goal.invariant-loop-i
invariant-loop-i l = l.answers ≡ sets l.initial.answers 0 (first_answers (compared_in l.res) l.readings l.i)
