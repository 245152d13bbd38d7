-- The flows of a layer by index: through an inner face, and through the top.
use Prim.Native.Nat.{ℕ, zero, suc, ◌+◌, ◌≤◌, ◌<◌}
use native.Mathlib.Numerals.{add-one}
use native.Mathlib.Omega.{arith}
use lib.Dec.{ltb, ltb→lt, nltb→le, lit≤}
use lib.IntN.{ℤ, pos, ◌-ℤ◌, ◌*ℤ◌}
use lib.ListN.{length, get_or}
use mathlib.Core.List.{List, [], ◌∷◌}
use mathlib.Core.Path.{◌≡◌, refl}
use Rattle.element.specs.Elements.{element_of, element_in, elements_in, flow_above}
use Rattle.laws.specs.Most.{most_excess, most_difference, most_flow}
use Rattle.laws.proofs.Index.{flow_at}
use Rattle.laws.specs.Faces.{HeldWithin, Holds}
use Rattle.numbers.proofs.Filled.{length-tabulate, get_or-tabulate}
use Rattle.numbers.specs.Interval.{Within}
use Rattle.numbers.proofs.Interval.{within-mul, within_quot, within-sub, within_le, within_pos}
use Rattle.numbers.specs.Rounding.{cut}
use Rattle.numbers.proofs.Searches.{by_test}
use Rattle.quantities.specs.Quantities.{step_limits}
use Rattle.rules.specs.Layer.{Element}
use Rattle.rules.specs.Step.{inner_resistance, outer_resistance, upward, outward, flows_above}
use Rattle.quantities.specs.declared.Face.{Face}
use Rattle.quantities.specs.declared.Face.TheVariants.{Closed, Drained}

-- an outer flow does not look at the element's sensitivity
pub outward_same : (face : Face) (t : ℕ) (e : Element) (c : ℕ) → outward face t (element_of e.excess e.resistance c) ≡ outward face t e
unfolding outward outer_resistance
outward_same Closed t e c = refl
outward_same (Drained held) t e c = refl

-- ---- ranges

-- no flow passes the most
pub flow_range : (d : ℤ) (t R : ℕ) → Within d most_difference → t ≤ step_limits.most → Within (cut (d *ℤ pos t) R) most_flow
flow_range d t R h short = within_quot (pos R) (within-mul h (within_le {n = step_limits.most} (within_pos t) short))

pub outward_range : (face : Face) (t : ℕ) (e : Element) → HeldWithin face → Within e.excess most_excess → t ≤ step_limits.most →
    Within (outward face t e) most_flow
unfolding Holds outward
outward_range Closed t e held h short = within_le (within_pos 0) (lit≤ tt)
outward_range (Drained held) t e within h short =
    flow_range (e.excess -ℤ held.0) t (outer_resistance e) (within_le (within-sub h within) (lit≤ tt)) short

-- ---- by index

module _ (top : Face) (t : ℕ) where
  -- through the top, by the last index
  above_top : (es : List Element) (j : ℕ) (d : Element) → suc j ≡ length es →
      get_or (flows_above top t es) j (pos 0) ≡ outward top t (get_or es j d)
  unfolding flows_above
  above_top [] j d h = absurd (omega arith)
  above_top (e ∷ []) zero d h = refl
  above_top (e ∷ []) (suc j) d h = absurd (omega arith)
  above_top (e ∷ f ∷ rest) zero d h = absurd (omega arith)
  above_top (e ∷ f ∷ rest) (suc j) d h = above_top (f ∷ rest) j d (omega arith)

  module _ (n : ℕ) (excess : List ℤ) (resistance : List ℕ) (j : ℕ) where
    -- an inner face, by the arrays
    pub flow_inner : j + 1 < n → flow_above top t n excess resistance j ≡
        cut ((get_or excess j (pos 0) -ℤ get_or excess (j + 1) (pos 0)) *ℤ pos t) (get_or resistance j 0 + get_or resistance (j + 1) 0)
    unfolding flow_above elements_in upward inner_resistance
    flow_inner h =
        rw (
          flow_at top t (elements_in n excess resistance []) j (pos 0) (element_of (pos 0) 0 0) (rw (length-tabulate n (element_in excess resistance [])) (omega arith)),
          get_or-tabulate n (element_in excess resistance []) j (element_of (pos 0) 0 0) (omega arith),
          ← add-one j,
          get_or-tabulate n (element_in excess resistance []) (j + 1) (element_of (pos 0) 0 0) h,
        )

    -- the top
    pub flow_top : j + 1 ≡ n → flow_above top t n excess resistance j ≡
        outward top t (element_in excess resistance [] j)
    unfolding flow_above elements_in
    flow_top h =
        rw (
          above_top (elements_in n excess resistance []) j (element_of (pos 0) 0 0) (rw (length-tabulate n (element_in excess resistance [])) (omega arith)),
          get_or-tabulate n (element_in excess resistance []) j (element_of (pos 0) 0 0) (omega arith),
        )

module _ (top : Face) (held : HeldWithin top) (t : ℕ) (short : t ≤ step_limits.most) (n : ℕ) (excess : List ℤ) (resistance : List ℕ) where
  -- every flow of the arrays is in range
  pub above_range : ((j : ℕ) → j < n → Within (get_or excess j (pos 0)) most_excess) → (j : ℕ) → j < n →
      Within (flow_above top t n excess resistance j) most_flow
  above_range h j k =
      by_test (ltb (j + 1) n) (λ _. Within (flow_above top t n excess resistance j) most_flow)
      (λ s.
      let inner = ltb→lt (j + 1) n s in
      rw (flow_inner top t n excess resistance j inner)
      (flow_range _ t _ (within_le (within-sub (h j k) (h (j + 1) inner)) (lit≤ tt)) short))
      (λ s.
      rw (flow_top top t n excess resistance j (omega (arith, nltb→le (j + 1) n s)))
      (outward_range top t (element_in excess resistance [] j) held (h j k) short))
