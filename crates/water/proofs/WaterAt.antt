-- The new water of a layer by index.
use Prim.Native.Nat.{ℕ, zero, suc, ◌+◌, ◌<◌}
use native.Mathlib.Nat.{le_refl}
use native.Mathlib.Numerals.{add-one}
use native.Mathlib.Omega.{arith}
use lib.IntN.{ℤ, pos, negsuc, nat_abs, ◌+ℤ◌, ◌-ℤ◌}
use lib.Dec.{T}
use lib.ListN.{get_or, length, set}
use lib.Signed.{non_neg, ◌≤ℤ◌}
use mathlib.Core.Bool.{Bool}
use mathlib.Core.List.{List, ◌∷◌}
use mathlib.Core.Path.{◌≡◌, refl, sym, ap, ◌∙◌}
use mir.Syntax.{w64}
use mir.Val.{Fits, SFits, of_z, to_z}
use Rattle.laws.specs.Most.{most_flow}
use Rattle.water.specs.Water.{new_water, height_after, between, stays_at, Movable}
use Rattle.numbers.specs.Arrays.{filled}
use Rattle.numbers.proofs.Filled.{filled_store, get_or-filled_past}
use Rattle.numbers.specs.Interval.{Within}
use Rattle.numbers.proofs.Interval.{within_fits}
use Rattle.numbers.proofs.Signed.{signed, read_back, cast_fits}
use Rattle.rules.specs.Step.{new_height}

-- what enters an element is in range
pub entering : (n : ℕ) (lowest : ℤ) (above : List ℤ) (water : List ℕ) → Movable n lowest above water → (j : ℕ) → j < n →
    Within (get_or (lowest ∷ above) j (pos 0)) most_flow
entering n lowest above water m zero h = m.lowest_within
entering n lowest above water m (suc j) h = m.above_within j (omega arith)

-- a height that is not negative is its size, whatever it was before
pub new_height_lem : (old : ℕ) (z : ℤ) → pos 0 ≤ℤ z → nat_abs z ≡ new_height old z
unfolding new_height
new_height_lem old (pos W) h = refl
new_height_lem old (negsuc W) h = absurd (omega signed)

-- what the machine computes of an element, given what enters it
module _ (n : ℕ) (lowest : ℤ) (above : List ℤ) (water : List ℕ) (movable : Movable n lowest above water) (j : ℕ) (h : j < n) where
  leaves_read : to_z w64 (of_z w64 (get_or above j (pos 0))) ≡ get_or above j (pos 0)
  leaves_read =
      let fits : SFits w64 (get_or above j (pos 0)) = within_fits tt (movable.above_within j h) in
      read_back fits

  -- what leaves it enters the next
  pub next_enters : to_z w64 (of_z w64 (get_or above j (pos 0))) ≡ get_or (lowest ∷ above) (j + 1) (pos 0)
  next_enters = rw (add-one j) leaves_read

  module _ {enters q : ℤ} (is : enters ≡ get_or (lowest ∷ above) j (pos 0))
      (moved : q ≡ pos (get_or water j 0) -ℤ to_z w64 (of_z w64 (get_or above j (pos 0))) +ℤ enters) where
    pub new_read : q ≡ new_water lowest above water j
    new_read = rw (is, leaves_read) at moved

    -- the test of its new water
    pub stays_read : (low high : List ℕ) {b : Bool} → SFits w64 q → b ≡ between (get_or low j 0) (get_or high j 0) (to_z w64 (of_z w64 q)) →
        stays_at lowest above water low high j ≡ b
    stays_read low high f e = sym (rw (read_back f, new_read) at e)

  -- its water is not moved before its turn, and then it is
  module _ {array : List ℕ} (so_far : array ≡ filled water j (height_after lowest above water)) where
    pub unmoved : get_or array j 0 ≡ get_or water j 0
    unmoved = rw so_far (get_or-filled_past water j (height_after lowest above water) j 0 (le_refl j))

    module _ {enters q : ℤ} (is : enters ≡ get_or (lowest ∷ above) j (pos 0))
        (moved : q ≡ pos (get_or array j 0) -ℤ to_z w64 (of_z w64 (get_or above j (pos 0))) +ℤ enters)
        (not_negative : pos 0 ≤ℤ new_water lowest above water j) (fits : SFits w64 q) where
      result_is : q ≡ new_water lowest above water j
      result_is = new_read is (rw unmoved at moved)

      pub moved_cast : T (non_neg (to_z w64 (of_z w64 q))) × Fits w64 (nat_abs (to_z w64 (of_z w64 q)))
      moved_cast = rw (read_back fits) (cast_fits q (rw result_is not_negative) fits)

      pub moved_store : j < length water →
          set array j (nat_abs (to_z w64 (of_z w64 q))) ≡ filled water (j + 1) (height_after lowest above water)
      moved_store k =
          rw (read_back fits)
          (filled_store water array j _ (nat_abs q) k so_far (ap nat_abs result_is ∙ new_height_lem _ _ not_negative))
