-- Runs of stores, and the eight bytes of a 64-bit number.
use Prim.Native.Nat.{ℕ, suc, ◌+◌, ◌-◌, ◌≤◌}
use native.Mathlib.Nat.{add-zero, zero-add, suc-add, add-suc, div-div-eq-div-mul}
use native.Mathlib.Omega.{arith}
use lib.ListN.{length, set}
use lib.Seq.{sets, sets-eq, drop-drop}
use borrow.Rule.Slice.PartMut.{put_mid}
use mathlib.Core.List.{List, [], ◌∷◌, ◌++◌, append_assoc}
use mathlib.Core.Path.{◌≡◌, sym, ◌∙◌}
use Rattle.std.specs.Int.{w64, to_le_bytes}
use Rattle.numbers.specs.Arrays.{overlaid}
use Rattle.numbers.specs.Bytes.{bytes}
pub use Rattle.numbers.proofs.LittleEndian.{length-bytes}

-- the stores of two lists, one after the other
pub sets_append : {A : Type 0} (l : List A) (i : ℕ) (xs ys : List A) → sets l i (xs ++ ys) ≡ sets (sets l i xs) (i + length xs) ys
sets_append l i [] ys = rw (add-zero i)
sets_append l i (x ∷ xs) ys = rw (add-suc i (length xs), ← suc-add i (length xs)) (sets_append (set l i x) (suc i) xs ys)

-- a list stored right after another
pub sets_then : {A : Type 0} (l : List A) (i : ℕ) (xs ys : List A) {before after : List A} {j : ℕ} →
    before ≡ sets l i xs → i + length xs ≡ j → after ≡ sets before j ys → after ≡ sets l i (xs ++ ys)
sets_then l i xs ys first seam second = second ∙ rw (first, ← seam) (sym (sets_append l i xs ys))

-- a run of stores from the first place on
pub sets_front : {A : Type 0} (l ys : List A) → length ys ≤ length l → sets l 0 ys ≡ overlaid ys l
unfolding overlaid
sets_front l ys h = sets-eq ys l 0 (omega arith) ∙ rw (zero-add (length ys))

-- the library's bytes of a 64-bit number
pub eight_bytes : (n : ℕ) → to_le_bytes w64 n ≡ bytes 8 n
unfolding bytes
eight_bytes n = simp div-div-eq-div-mul

-- a list copied over the places from one on is a run of stores
pub sets_part : (l : List ℕ) (at k : ℕ) (part : List ℕ) → length part ≡ k → at + k ≤ length l → put_mid at (at + k - at) l part ≡ sets l at part
sets_part l at k part e h =
    let m : at + k - at ≡ length part = omega (arith, e) in
    rw (m, drop-drop (length part) at l, ← append_assoc) (sym (sets-eq part l at (omega (arith, e))))
