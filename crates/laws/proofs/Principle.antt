-- The maximum principle of one element: no pressure leaves a convex set that holds its own and its neighbours' pressures.
use Prim.Native.Nat.{ℕ, suc, ◌-◌, ◌*◌, ◌≤◌}
use lib.Dec.{T}
use lib.IntN.{ℤ, pos, negsuc, neg_ℤ, ◌+ℤ◌, ◌-ℤ◌, ◌*ℤ◌, +ℤ_idr, *ℤ-zero}
use mathlib.Core.Path.{◌≡◌, ap}
use Rattle.numbers.specs.Rounding.{cut}
use Rattle.numbers.proofs.Signed.{signed, add_parts, sub_parts, up_neg, down_neg, mul-up, mul-down}
use Rattle.rules.specs.Curve.{is_on, value_of}
use Rattle.quantities.specs.Quantities.{CurveValue}
use Rattle.laws.proofs.Amid.{Amid, upward, downward, shifted, middle, Convex}
use Rattle.laws.proofs.Reading.{BoundedFall}
use Rattle.laws.proofs.Flow.{flow_amid, flow_reversed}

-- the way from p leads to q
arrives : (p q : ℤ) → p +ℤ (q -ℤ p) ≡ q
arrives p q = omega (signed, add_parts p (q -ℤ p), sub_parts q p)

-- the way back is the opposite of the way
opposite : (p q : ℤ) → neg_ℤ (p -ℤ q) ≡ q -ℤ p
opposite p q = omega (signed, sub_parts p q, sub_parts q p, up_neg (p -ℤ q), down_neg (p -ℤ q))

-- A less u, and u less w, is A less w
replaced : (A : ℤ) (u w : ℕ) → A -ℤ pos u +ℤ (pos u -ℤ pos w) ≡ A -ℤ pos w
replaced A u w =
    omega (signed, add_parts (A -ℤ pos u) (pos u -ℤ pos w), sub_parts A (pos u), sub_parts (pos u) (pos w), sub_parts A (pos w))

-- twice M times z is M times z, twice
doubled : (M : ℕ) (z : ℤ) → pos (2 * M) *ℤ z ≡ pos M *ℤ z +ℤ pos M *ℤ z
doubled M z =
    let x = pos M *ℤ z in
    omega (signed, mul-up (2 * M) z, mul-down (2 * M) z, mul-up M z, mul-down M z, add_parts x x)

-- M times a sum is the sum of M times each
distributed : (M : ℕ) (x y : ℤ) → pos M *ℤ (x +ℤ y) ≡ pos M *ℤ x +ℤ pos M *ℤ y
distributed M x y =
    let e = ap (λ (n : ℕ). M * n) (add_parts x y) in
    omega (
      signed,
      mul-up M (x +ℤ y),
      mul-down M (x +ℤ y),
      mul-up M x,
      mul-down M x,
      mul-up M y,
      mul-down M y,
      add_parts (pos M *ℤ x) (pos M *ℤ y),
    )

-- pressure p bears an inflow: with K times the inflow added it is still in the set
abbrev pub Bears : (ℤ → Type 0) → ℕ → (p inflow : ℤ) → Type 0
Bears P K p inflow = P (p +ℤ pos K *ℤ inflow)

module _ {P : ℤ → Type 0} (convex : Convex P) where
  -- an element bears what enters it from a pressure of the set
  pub bears_entering : (K t R : ℕ) (p q : ℤ) → K * t ≤ R → P p → P q → Bears P K p (cut ((q -ℤ p) *ℤ pos t) R)
  bears_entering K t R p q short hp hq =
      convex.between hp hq (rw (+ℤ_idr p, arrives p q) at (shifted p (flow_amid (q -ℤ p) t R K short)))

  -- an element bears what leaves it towards a pressure of the set
  pub bears_leaving : (K t R : ℕ) (p q : ℤ) → K * t ≤ R → P p → P q → Bears P K p (neg_ℤ (cut ((p -ℤ q) *ℤ pos t) R))
  bears_leaving K t R p q short hp hq = rw (← flow_reversed (p -ℤ q) t R, opposite p q) (bears_entering K t R p q short hp hq)

  -- an element bears no flow
  pub bears_nothing : (K : ℕ) (p : ℤ) → P p → Bears P K p (pos 0)
  bears_nothing K p h = rw (*ℤ-zero (pos K), +ℤ_idr p) h

  -- an element that bears twice M of each of two inflows bears M of both
  pub bears_both : (M : ℕ) (p i j : ℤ) → Bears P (2 * M) p i → Bears P (2 * M) p j → Bears P M p (i +ℤ j)
  bears_both M p i j bi bj =
      convex.between bi bj
      (rw (doubled M i, doubled M j, distributed M i j) (shifted p (middle (pos M *ℤ i) (pos M *ℤ j))))

module _ {reading : ℕ → CurveValue} {M : ℕ} (fall : BoundedFall reading M) (U W : ℕ)
    (on : T (is_on (reading U))) (on' : T (is_on (reading W))) where
  -- as water grows from U to W by a net inflow, the value falls by nothing to M times that inflow
  value_drops : (net : ℤ) → pos W ≡ pos U +ℤ net → Amid (pos 0) (pos M *ℤ net) (pos (value_of (reading U)) -ℤ pos (value_of (reading W)))
  value_drops (pos n) e =
      let h : U ≤ W = omega signed in
      let gain : W - U ≡ n = omega signed in
      let slope = rw gain at (fall.slope U W h on on') in
      let change = sub_parts (pos (value_of (reading U))) (pos (value_of (reading W))) in
      upward (omega (signed, fall.falls U W h on on')) (omega signed)
  value_drops (negsuc n) e =
      let less = add_parts (pos U) (negsuc n) in
      let h : W ≤ U = omega signed in
      let loss : U - W ≡ suc n = omega signed in
      let slope = rw loss at (fall.slope W U h on' on) in
      let change = sub_parts (pos (value_of (reading U))) (pos (value_of (reading W))) in
      let most = pos (M * suc n) in
      downward (omega (signed, up_neg most, down_neg most)) (omega (signed, fall.falls W U h on' on))

  -- the pressure, A less the value, goes from nothing to all of the way by which M times the inflow would move it
  pub follows : (A net : ℤ) → pos W ≡ pos U +ℤ net →
      Amid (A -ℤ pos (value_of (reading U))) (A -ℤ pos (value_of (reading U)) +ℤ pos M *ℤ net) (A -ℤ pos (value_of (reading W)))
  follows A net e =
      let p = A -ℤ pos (value_of (reading U)) in
      rw (+ℤ_idr p, replaced A (value_of (reading U)) (value_of (reading W))) at (shifted p (value_drops net e))

  -- the maximum principle: the new pressure stays in a convex set if the old one bears twice M of each of the two inflows
  pub principle : {P : ℤ → Type 0} → Convex P → (A i j : ℤ) → pos W ≡ pos U +ℤ (i +ℤ j) → P (A -ℤ pos (value_of (reading U))) →
      Bears P (2 * M) (A -ℤ pos (value_of (reading U))) i → Bears P (2 * M) (A -ℤ pos (value_of (reading U))) j →
      P (A -ℤ pos (value_of (reading W)))
  principle convex A i j e h bi bj =
      convex.between h (bears_both convex M (A -ℤ pos (value_of (reading U))) i j bi bj) (follows A (i +ℤ j) e)
