use lib.ListN.{take}
use mathlib.Core.Path.{◌≡◌}
use Rattle.text.specs.Text.{trimmed}
use Rattle.text.proofs.used.Given as goal

-- the places from i on hold 0
abbrev pub invariant-loop-i : goal.invariant-loop-i
invariant-loop-i l = trimmed (take l.i l.values) ≡ trimmed l.values
