-- A field as a loop reads it, and the bounds of a column.
use Prim.Native.Nat.{ℕ, suc, ◌+◌, ◌*◌, ◌-◌, ◌^◌, ◌≤◌, ◌<◌}
use native.Mathlib.Nat.{pow-le-pow_right, mul-le-mul_left, mul-suc}
use native.Mathlib.Omega.{arith}
use lib.ListN.{get_or}
use mathlib.Core.List.{List}
use mathlib.Core.Path.{◌≡◌, sym}
use Rattle.numbers.specs.Bytes.{field}
use Rattle.numbers.proofs.LittleEndian.{AreBytes, field_suc, field_lt}

-- a field of 8 bytes or fewer is a number of 64 bits
field_fits : (size offset : ℕ) (bs : List ℕ) → AreBytes bs → size ≤ 8 → field size offset bs < 2 ^ 64
field_fits size offset bs are h =
    omega (arith, field_lt size offset bs are, pow-le-pow_right {n = 256} (omega arith) {i = size} {j = 8} h)

-- one byte more, as a loop comes down from the highest: the field of so many bytes more, and its bound
pub one_byte_more : (size offset i value : ℕ) (bs : List ℕ) → AreBytes bs → 0 < i → i ≤ size → size ≤ 8 → value ≡ field (size - i) (offset + i) bs →
    let next = get_or bs (offset + (i - 1)) 0 + 256 * value in
    (next ≡ field (size - (i - 1)) (offset + (i - 1)) bs) × (next < 2 ^ 64)
one_byte_more size offset i value bs are h l s e =
    let more : size - (i - 1) ≡ suc (size - i) = omega arith in
    let next : offset + i ≡ suc (offset + (i - 1)) = omega arith in
    let rest = size - (i - 1) in
    let place = offset + (i - 1) in
    let down : get_or bs place 0 + 256 * value ≡ field rest place bs = rw (e, more, next) (sym (field_suc (size - i) place bs)) in
    (down, rw down (field_fits rest place bs are (omega arith)))

-- a stride before the last is left for every field but it
pub strides : (stride i count : ℕ) → i < count → stride * i + stride ≤ stride * count
strides stride i count h = rw (← mul-suc stride i) (mul-le-mul_left stride h)
