-- The specimen's key, as the second program writes it.
use Prim.Native.Nat.{ℕ}
use lib.IntN.{ℤ, pos}
use mathlib.Core.List.{List, [], ◌∷◌, ◌++◌}
use mathlib.Core.Path.{◌≡◌, refl}
use Rattle.numbers.specs.Bytes.{bytes}
use Rattle.rules.specs.Program.{program_output}
use Rattle.rules.specs.Result.{word, signed_word}
use Rattle.rules.specs.Specimen.{specimen}

-- L S R, version 1, stop, number of elements and 0; clock, steps, load, both outflows, settlement
abbrev printed_head : (stop elements clock steps load : ℕ) (top_outflow bottom_outflow settlement : ℤ) → List ℕ
printed_head stop elements clock steps load top_outflow bottom_outflow settlement =
    (76 ∷ 83 ∷ 82 ∷ []) ++ bytes 2 1 ++ (stop ∷ elements ∷ 0 ∷ []) ++ word clock ++ word steps ++ word load ++
    signed_word top_outflow ++ signed_word bottom_outflow ++ signed_word settlement

-- W, E, effective stress, total stress, pore pressure
abbrev printed_element : (W E effective : ℕ) (total pore : ℤ) → List ℕ
printed_element W E effective total pore = word W ++ word E ++ word effective ++ signed_word total ++ signed_word pore

pub specimen_key : program_output specimen ≡
    printed_head 0 2 100 1 15_000_000 (pos 13_591) (pos 0) (pos 13_591) ++
    printed_element 2_000_000 200_000_000 5_000_000 (pos 15_083_385) (pos 10_083_385) ++
    printed_element 1_986_409 198_640_900 6_359_100 (pos 15_054_021) (pos 8_694_921)
unfolding program_output specimen
specimen_key = refl
