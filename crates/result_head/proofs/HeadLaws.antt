-- A result's head: its length, and the stores of its first eight bytes.
use Prim.Native.Nat.{ℕ, ◌%◌, ◌≤◌}
use native.Mathlib.Omega.{arith}
use lib.IntN.{ℤ}
use lib.ListN.{length, set}
use lib.Seq.{sets}
use mathlib.Core.List.{List}
use mathlib.Core.Path.{◌≡◌, refl}
use Rattle.numbers.specs.Bytes.{bytes}
use Rattle.quantities.specs.Quantities.{element_limits}
use Rattle.rules.specs.Result.{before_clock, head_bytes}
use Rattle.rules.specs.Run.{stop_number}
use Rattle.rules.specs.declared.answers.Stop.{Stop}
use Rattle.rules.specs.declared.answers.Stop.TheVariants.{AtEnd, BudgetUsed, NoStep, OffCurve}

-- the head's length
pub length-head : (stop : Stop) (elements clock steps load : ℕ) (top_outflow bottom_outflow settlement : ℤ) →
    length (head_bytes stop elements clock steps load top_outflow bottom_outflow settlement) ≡ 56
unfolding head_bytes bytes
length-head stop elements clock steps load top_outflow bottom_outflow settlement = refl

-- a stop's number fits a byte
pub stop_fits : (stop : Stop) → stop_number stop ≤ 255
unfolding stop_number
stop_fits AtEnd = omega arith
stop_fits BudgetUsed = omega arith
stop_fits NoStep = omega arith
stop_fits OffCurve = omega arith

-- their stores, one after the other
pub first_stores : (l : List ℕ) (stop : Stop) (number elements : ℕ) → number ≡ stop_number stop → elements ≤ element_limits.most →
    set (set (set (set (set (set (set (set l 0 76) 1 83) 2 82) 3 1) 4 0) 5 number) 6 elements) 7 0 ≡ sets l 0 (before_clock stop elements)
unfolding bytes
first_stores l stop number elements e h =
    let first : stop_number stop % 256 ≡ stop_number stop = omega (arith, stop_fits stop) in
    let second : elements % 256 ≡ elements = omega arith in
    rw (e, first, second)
