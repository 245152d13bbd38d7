-- Calls and answers as words, three of them each.
use Rattle.std.specs.Prelude.{ℕ, zero, suc, ◌+◌, ◌*◌, ◌/◌, min, length, get_or, List, [], ◌∷◌, ◌++◌}
use Rattle.numbers.specs.Arrays.{tabulate}
use Rattle.rules.specs.Outcome.{answer_numbers}
use Rattle.rules.specs.declared.answers.Answer.{Answer}
use Rattle.rules.specs.declared.answers.Call.{Call}
use Rattle.rules.specs.declared.answers.Call.TheVariants.{Load, Step, Run}

-- kind 0 is a load, 1 a step, and any other a run to an end with a budget
unfoldable pub call_of : (kind a b : ℕ) → Call
call_of zero a b = Load a
call_of (suc zero) a b = Step a
call_of (suc (suc kind)) a b = Run a b

-- call i of the words
unfoldable pub call_at : (words : List ℕ) (i : ℕ) → Call
unfolding call_of
call_at words i = call_of (get_or words (3 * i) 0) (get_or words (3 * i + 1) 0) (get_or words (3 * i + 2) 0)

-- as many calls as the words hold, and as there is room for the answers of
abbrev pub call_count : (words room : ℕ) → ℕ
call_count words room = min words room / 3

-- the calls of the words whose answers have room in a slice
unfoldable pub calls_in : (words slice : List ℕ) → List Call
unfolding tabulate call_at
calls_in words slice = tabulate (call_count (length words) (length slice)) (call_at words)

-- an answer's refusal number, stop and number of steps
abbrev pub answer_words : Answer → List ℕ
answer_words answer = let numbers = answer_numbers answer in numbers.refusal ∷ numbers.stop ∷ numbers.steps ∷ []

-- the words of every answer
unfoldable pub all_words : List Answer → List ℕ
all_words [] = []
all_words (answer ∷ rest) = answer_words answer ++ all_words rest
