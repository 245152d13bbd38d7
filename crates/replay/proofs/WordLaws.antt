-- The words that a loop writes, longer by one answer's.
use Prim.Native.Nat.{ℕ, ◌+◌, ◌*◌, ◌≤◌, ◌<◌, min}
use native.Mathlib.Nat.{mul-div-le}
use native.Mathlib.Omega.{arith}
use lib.ListN.{length, drop, length-append}
use lib.Seq.{sets, sets-eq, take_at, drop-append-add, drop-drop}
use mathlib.Core.List.{List, [], ◌∷◌, ◌++◌}
use mathlib.Core.Path.{◌≡◌, refl, ◌∙◌}
use Rattle.numbers.specs.Arrays.{overlaid}
use Rattle.numbers.proofs.Filled.{length-overlaid}
use Rattle.replay.specs.Words.{call_count, answer_words, all_words}
use Rattle.rules.specs.declared.answers.Answer.{Answer}

-- values stored right after a list lengthen it
pub sets_overlaid : {A : Type 0} (list more array : List A) → length list + length more ≤ length array →
    sets (overlaid list array) (length list) more ≡ overlaid (list ++ more) array
unfolding overlaid
sets_overlaid list more array h =
    sets-eq more (list ++ drop (length list) array) (length list) (rw (length-overlaid list array (omega arith)) h) ∙
    rw (
      take_at list (drop (length list) array) (length list) refl,
      drop-append-add list (drop (length list) array) (length more),
      drop-drop (length more) (length list) array,
      length-append list more,
    )
    refl

-- the words of one more answer come last
pub words_more : (answers : List Answer) (answer : Answer) → all_words (answers ++ (answer ∷ [])) ≡ all_words answers ++ answer_words answer
unfolding all_words
words_more [] answer = refl
words_more (first ∷ rest) answer = rw (words_more rest answer) refl

-- three words an answer
pub words_length : (answers : List Answer) → length (all_words answers) ≡ 3 * length answers
unfolding all_words
words_length [] = refl
words_length (first ∷ rest) = omega (arith, words_length rest)

-- the words of a call that is counted lie within the words, and those of its answer within the room
pub counted_words : (words room i : ℕ) → i < call_count words room → (3 * i + 3 ≤ words) × (3 * i + 3 ≤ room)
counted_words words room i h =
    let most = mul-div-le (min words room) 3 in (omega (arith, most), omega (arith, most))
