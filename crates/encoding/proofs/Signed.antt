-- The signed number of a 64-bit field.
use Prim.Native.Nat.{ℕ, suc, ◌-◌, ◌^◌, ◌≤◌, ◌<◌}
use native.Mathlib.Omega.{arith}
use borrow.Author.Tests.{lt-ltb, le-ltb, ltb-true, ltb-false}
use lib.Dec.{ltb}
use lib.IntN.{pos, negsuc}
use mathlib.Core.Bool.{Bool, true, false}
use mathlib.Core.Path.{◌≡◌, refl, ap}
use mir.Syntax.{w64}
use mir.Val.{SFits, of_z, to_z, sel}
use Rattle.numbers.specs.Bytes.{signed_number}
use Rattle.numbers.proofs.Signed.{read_back}

-- fields below 2 ^ 63 hold numbers that are not negative, the others negative ones
pub signed_number_low : (field : ℕ) → field < 2 ^ 63 → signed_number field ≡ pos field
unfolding signed_number
signed_number_low field h = rw (lt-ltb field (2 ^ 63) h, signed_number)

pub signed_number_high : (field : ℕ) → 2 ^ 63 ≤ field → signed_number field ≡ negsuc (2 ^ 64 - 1 - field)
unfolding signed_number
signed_number_high field h = rw (le-ltb field (2 ^ 63) h, signed_number)

-- it is the number that two's complement reads in the bits
pub signed_number_bits : (field : ℕ) → to_z w64 field ≡ signed_number field
unfolding signed_number
signed_number_bits field = same (ltb field (2 ^ 63))
  where
    same : (b : Bool) → sel b (pos field) (negsuc (2 ^ 64 - suc field)) ≡ elim b [ true ↦ pos field | false ↦ negsuc (2 ^ 64 - 1 - field) ]
    same true = refl
    same false = ap negsuc (omega arith)

-- the number of any field fits an i64
pub signed_number_fits : (field : ℕ) → SFits w64 (signed_number field)
signed_number_fits field = go (ltb field (2 ^ 63)) refl
  where
    go : (b : Bool) → ltb field (2 ^ 63) ≡ b → SFits w64 (signed_number field)
    go true e = rw (signed_number_low field (ltb-true _ _ e)) (record { sfits = ltb-true _ _ e })
    go false e = rw (signed_number_high field (ltb-false _ _ e)) (record { sfits = omega (arith, ltb-false field (2 ^ 63) e) })

-- and is read back as it was written
pub back : (field : ℕ) → to_z w64 (of_z w64 (signed_number field)) ≡ signed_number field
back field = read_back (signed_number_fits field)
