-- What is written of a division.
use Rattle.std.specs.Prelude.{ℕ, zero, suc, ◌+◌, ℤ, pos, negsuc, get_or, cond, List}
use Rattle.numbers.specs.Integers.{eq_ℤ}
use Rattle.rules.specs.declared.answers.Refusal.{Refusal}
use Rattle.std.specs.Prelude.{Result, Ok, Err}
use Rattle.rules.specs.Refusals.{refusal_number}

-- what a place of a buffer holds before it is written: -7,777,777,777,777,777,777
abbrev pub fill : ℤ
fill = negsuc 7777777777777777776

-- how many of so many places of a buffer, from a place on, hold it
unfoldable pub kept : (count first : ℕ) → List ℤ → ℕ
kept zero first buffer = 0
kept (suc count) first buffer = cond (eq_ℤ (get_or buffer first (pos 0)) fill) 1 0 + kept count (suc first) buffer

-- how many entries, and the refusal number or 0
abbrev pub entry_count : Result ℕ Refusal → ℕ
entry_count (Ok n) = n
entry_count (Err cause) = 0

abbrev pub divided_number : Result ℕ Refusal → ℕ
divided_number (Ok n) = 0
divided_number (Err cause) = refusal_number cause
