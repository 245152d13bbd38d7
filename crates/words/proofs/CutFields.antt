-- 64-bit fields of bytes that end before them.
use Prim.Native.Nat.{ℕ, ◌-◌, ◌≤◌, ◌<◌}
use native.Mathlib.Omega.{arith}
use lib.ListN.{length, drop, length-drop, drop_of_length-le}
use lib.Seq.{take_all}
use mathlib.Core.List.{List}
use mathlib.Core.Path.{◌≡◌, sym, ap, ◌∙◌}
use Rattle.numbers.specs.Bytes.{number, field}

module _ (bs : List ℕ) (offset : ℕ) where
  -- past the last byte a field is 0
  pub field_past : length bs ≤ offset → field 8 offset bs ≡ 0
  unfolding field number
  field_past h = rw (drop_of_length-le bs h)

  -- the bytes that there are hold the same number
  pub field_cut : length bs - offset < 8 → field (length bs - offset) offset bs ≡ field 8 offset bs
  unfolding field
  field_cut h =
      let left = length-drop offset bs in
      ap number (take_all (length bs - offset) (drop offset bs) (omega arith) ∙ sym (take_all 8 (drop offset bs) (omega arith)))
