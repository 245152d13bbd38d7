-- Any two flows differ by at most 1 nm just where the least and the greatest do.
use Prim.Native.Nat.{ℕ, zero, suc, ◌+◌, ◌<◌}
use native.Mathlib.Numerals.{add-one}
use native.Mathlib.Omega.{arith}
use lib.Dec.{T, ltb, ltb→lt, nltb→le, leb→le, le→leb}
use lib.IntN.{ℤ, pos, nat_abs, ◌-ℤ◌}
use lib.Signed.{lt_z, le_z, ◌≤ℤ◌}
use mathlib.Core.Bool.{Bool, true, false, cond}
use mathlib.Core.List.{List, ◌∷◌}
use mathlib.Core.Path.{◌≡◌, refl, subst}
use Rattle.laws.proofs.Every.{every_all, every_at, every_map, every_tabulate}
use Rattle.laws.specs.Amid.{Between}
use Rattle.laws.specs.Every.{Every}
use Rattle.numbers.proofs.Searches.{passed, is_true, same_test, by_test}
use Rattle.numbers.proofs.Signed.{signed, sub_parts, nat_abs_parts, one_sided}
use Rattle.numbers.proofs.Filled.{get_or-tabulate, length-tabulate}
use Rattle.numbers.specs.Arrays.{tabulate}
use Rattle.numbers.specs.Lists.{all, any_two}
use Rattle.rules.specs.Steady.{near, steady_flows}
use Rattle.steady_test.specs.Extremes.{lesser, greater, with_flow, extremes_to}
use Rattle.steady_test.specs.declared.extremes.Extremes.{Extremes}

-- ---- two flows

-- what both have, the lesser and the greater have
lesser_has : (P : ℤ → Type 0) (a b : ℤ) → P a → P b → P (lesser a b)
lesser_has P a b p q = go (lt_z a b)
  where
    go : (c : Bool) → P (cond c a b)
    go true = p
    go false = q

greater_has : (P : ℤ → Type 0) (a b : ℤ) → P a → P b → P (greater a b)
greater_has P a b p q = go (lt_z a b)
  where
    go : (c : Bool) → P (cond c b a)
    go true = q
    go false = p

-- the lesser is not above either, the greater not below
lesser_low : (a b : ℤ) → (lesser a b ≤ℤ a) × (lesser a b ≤ℤ b)
lesser_low a b = go (lt_z a b) refl
  where
    go : (c : Bool) → lt_z a b ≡ c → (cond c a b ≤ℤ a) × (cond c a b ≤ℤ b)
    go true e = (omega signed, omega signed)
    go false e = (omega signed, omega signed)

greater_high : (a b : ℤ) → (a ≤ℤ greater a b) × (b ≤ℤ greater a b)
greater_high a b = go (lt_z a b) refl
  where
    go : (c : Bool) → lt_z a b ≡ c → (a ≤ℤ cond c b a) × (b ≤ℤ cond c b a)
    go true e = (omega signed, omega signed)
    go false e = (omega signed, omega signed)

-- ---- the extremes of all flows

module _ (lowest : ℤ) (above : ℕ → ℤ) where
  -- with one flow more
  pub extremes_more : (n : ℕ) → extremes_to lowest (n + 1) above ≡ with_flow (extremes_to lowest n above) (above n)
  unfolding extremes_to
  extremes_more n = rw (add-one n)

  -- what all flows have, the extremes have: they are flows
  pub extremes_have : (P : ℤ → Type 0) (n : ℕ) → P lowest → ((j : ℕ) → j < n → P (above j)) →
      P (extremes_to lowest n above).least × P (extremes_to lowest n above).greatest
  unfolding extremes_to
  extremes_have P zero first each = (first, first)
  extremes_have P (suc n) first each =
      let (least, greatest) = extremes_have P n first (λ j h. each j (omega arith)) in
      let last = each n (omega arith) in
      (lesser_has P (extremes_to lowest n above).least (above n) least last, greater_has P (extremes_to lowest n above).greatest (above n) greatest last)

  -- every flow lies between them
  abbrev Amidst : ℕ → ℤ → Type 0
  Amidst n z = Between (extremes_to lowest n above).least (extremes_to lowest n above).greatest z

  wider : (n : ℕ) (z : ℤ) → Amidst n z → Amidst (suc n) z
  unfolding extremes_to
  wider n z (low, high) =
      let e = extremes_to lowest n above in
      let l = (lesser_low e.least (above n)).0 in
      let g = (greater_high e.greatest (above n)).0 in
      (omega signed, omega signed)

  extremes_bound : (n : ℕ) → Amidst n lowest × ((j : ℕ) → j < n → Amidst n (above j))
  unfolding extremes_to
  extremes_bound zero = ((omega signed, omega signed), λ j h. absurd (omega arith))
  extremes_bound (suc n) =
      let (first, each) = extremes_bound n in
      let e = extremes_to lowest n above in (
        wider n lowest first,
        λ j h. by_test (ltb j n) (λ _. Amidst (suc n) (above j)) (λ t. wider n (above j) (each j (ltb→lt j n t)))
            (λ t.
            let same : n ≡ j = omega (arith, nltb→le j n t) in
            subst (λ (i : ℕ). Amidst (suc n) (above i)) same
            ((lesser_low e.least (above n)).1, (greater_high e.greatest (above n)).1)),
      )

-- ---- near flows

-- two flows between flows that are near are near
near_amid : (lo hi a b : ℤ) → le_z (hi -ℤ lo) (pos 1) ≡ true → Between lo hi a → Between lo hi b → T (near a b)
unfolding near
near_amid lo hi a b e (al, ah) (bl, bh) =
    le→leb (nat_abs (a -ℤ b)) 1 (omega (signed, sub_parts hi lo, sub_parts a b, nat_abs_parts (a -ℤ b), one_sided (a -ℤ b)))

near_apart : (lo hi : ℤ) → T (near lo hi) → le_z (hi -ℤ lo) (pos 1) ≡ true
unfolding near
near_apart lo hi t =
    let k = leb→le (nat_abs (lo -ℤ hi)) 1 t in
    omega (signed, sub_parts hi lo, sub_parts lo hi, nat_abs_parts (lo -ℤ hi))

module _ (lowest : ℤ) (n : ℕ) (above : ℕ → ℤ) where
  abbrev e : Extremes
  e = extremes_to lowest n above

  abbrev flows : List ℤ
  flows = lowest ∷ tabulate n above

  -- what all flows have, each has
  each_has : (P : ℤ → Type 0) → Every P flows → P lowest × ((j : ℕ) → j < n → P (above j))
  unfolding Every
  each_has P (first, rest) = (
    first,
    λ j h. subst P (get_or-tabulate n above j (pos 0) h)
        (every_at P (tabulate n above) j (pos 0) rest (rw (length-tabulate n above) h)),
  )

  extremes_near : T (steady_flows flows) → T (near e.least e.greatest)
  unfolding steady_flows any_two
  extremes_near t =
      let all_Near = (every_all (λ a. all (near a) flows) flows).0 t in
      let (first, each) = each_has (λ a. T (all (near a) flows)) all_Near in
      let least-near = (extremes_have lowest above (λ a. T (all (near a) flows)) n first each).0 in
      let (first', each') = each_has (λ b. T (near e.least b)) ((every_all (near e.least) flows).0 least-near) in
      (extremes_have lowest above (λ b. T (near e.least b)) n first' each').1

  flows_near : le_z (e.greatest -ℤ e.least) (pos 1) ≡ true → T (steady_flows flows)
  unfolding steady_flows any_two Every
  flows_near k =
      let (first, each) = extremes_bound lowest above n in
      let amidst : Every (Amidst lowest above n) flows = (first, every_tabulate (Amidst lowest above n) n above each) in
      (every_all (λ a. all (near a) flows) flows).1
      (every_map (Amidst lowest above n) (λ a. T (all (near a) flows))
      (λ a between.
      (every_all (near a) flows).1
      (every_map (Amidst lowest above n) (λ b. T (near a b)) (λ b. near_amid e.least e.greatest a b k between) flows amidst)) flows amidst)

  pub by_extremes : steady_flows flows ≡ le_z (e.greatest -ℤ e.least) (pos 1)
  by_extremes =
      same_test (steady_flows flows) (le_z (e.greatest -ℤ e.least) (pos 1)) (λ t. passed (near_apart e.least e.greatest (extremes_near t)))
      (λ t. flows_near (is_true _ t))
