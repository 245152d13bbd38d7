-- The second program: what it writes for what it reads.
use Rattle.std.specs.Prelude.{ℕ, ◌+◌, ◌/◌, ◌%◌, ltb, eqb, take, true, false, List, [], ◌∷◌, ◌++◌}
use Rattle.numbers.specs.Arrays.{zeros}
use Rattle.rules.specs.Job.{described}
use Rattle.rules.specs.Key.{key}
use Rattle.rules.specs.Result.{result_size, result_most}

-- the digits of a number below 100
unfoldable pub digits : ℕ → List ℕ
digits n = elim (ltb n 10) [ true ↦ (48 + n) ∷ [] | false ↦ (48 + n / 10) ∷ (48 + n % 10) ∷ [] ]

-- "refused", a space, the number and a newline
unfoldable pub refused_line : (number : ℕ) → List ℕ
unfolding digits
refused_line number = (114 ∷ 101 ∷ 102 ∷ 117 ∷ 115 ∷ 101 ∷ 100 ∷ 32 ∷ []) ++ digits number ++ (10 ∷ [])

-- of the input so many bytes are read at most
abbrev pub input_most : ℕ
input_most = 8_192

-- the result's bytes, or the refusal
unfoldable pub program_output : (input : List ℕ) → List ℕ
unfolding key zeros described refused_line result_size
program_output input =
    let job = take input_most input in
    let returned = key job (zeros result_most) in
    elim (eqb returned.number 0) [
      | true ↦ take (result_size (described job).header.elements) returned.buffer
      | false ↦ refused_line returned.number
    ]
