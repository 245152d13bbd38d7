-- How long words and their bytes are, and the stores that a loop makes of words one after the other.
use Prim.Native.Nat.{ℕ, ◌+◌, ◌*◌, ◌≤◌, ◌<◌}
use native.Mathlib.Nat.{zero-add}
use native.Mathlib.Numerals.{add-one}
use native.Mathlib.Omega.{arith}
use lib.ListN.{length, take, get_or, length-append}
use lib.Seq.{sets, take-suc, take_all, length-take-le}
use mathlib.Core.List.{List, [], ◌∷◌, ◌++◌, append_assoc, append-nil}
use mathlib.Core.Path.{◌≡◌, refl, sym, ap, ◌∙◌}
use Rattle.encoding.proofs.Stores.{length-bytes, sets_append, sets_front}
use Rattle.numbers.proofs.Filled.{length-tabulate}
use Rattle.numbers.specs.Arrays.{overlaid}
use Rattle.numbers.specs.Bytes.{bytes, column}
use Rattle.numbers.specs.Lists.{appended}
use Rattle.words.specs.Words.{words_in, bytes_of}

-- so many words
pub length-words_in : (count : ℕ) (bs : List ℕ) → length (words_in count bs) ≡ count
unfolding words_in
length-words_in count bs = length-tabulate count (column 8 0 bs)

-- eight bytes a word
pub length-bytes_of : (words : List ℕ) → length (bytes_of words) ≡ 8 * length words
unfolding bytes_of appended
length-bytes_of [] = refl
length-bytes_of (n ∷ words) =
    length-append (bytes 8 n) (bytes_of words) ∙ rw (length-bytes 8 n, length-bytes_of words) (omega arith)

-- one word more comes last
bytes_more : (words : List ℕ) (n : ℕ) → bytes_of (words ++ (n ∷ [])) ≡ bytes_of words ++ bytes 8 n
unfolding bytes_of appended
bytes_more [] n = append-nil (bytes 8 n)
bytes_more (first ∷ words) n =
    ap (λ (rest : List ℕ). bytes 8 first ++ rest) (bytes_more words n) ∙ sym (append_assoc (bytes 8 first) (bytes_of words) (bytes 8 n))

module _ (words before : List ℕ) where
  -- no word
  pub stored_none : before ≡ sets before 0 (bytes_of (take 0 words))
  unfolding bytes_of appended
  stored_none = refl

  -- one word more
  pub stored_more : (i : ℕ) (out next : List ℕ) → i < length words → out ≡ sets before 0 (bytes_of (take i words)) →
      next ≡ sets out (8 * i) (bytes 8 (get_or words i 0)) → next ≡ sets before 0 (bytes_of (take (i + 1) words))
  stored_more i out next h e k =
      let size : length (bytes_of (take i words)) ≡ 8 * i =
      length-bytes_of (take i words) ∙ ap (λ (n : ℕ). 8 * n) (length-take-le i words (omega arith)) in
      rw (
        k,
        e,
        add-one i,
        take-suc words i 0 h,
        bytes_more (take i words) (get_or words i 0),
        sets_append before 0 (bytes_of (take i words)) (bytes 8 (get_or words i 0)),
        size,
        zero-add (8 * i),
      )
      refl

  -- all words
  pub stored_all : (i : ℕ) (out : List ℕ) → out ≡ sets before 0 (bytes_of (take i words)) → length words ≤ i →
      8 * length words ≤ length before → out ≡ overlaid (bytes_of words) before
  stored_all i out e all room =
      e ∙ rw (take_all i words all) (sets_front before (bytes_of words) (rw (length-bytes_of words) room))
