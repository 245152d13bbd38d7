-- The water of a start, as arrays hold it.
use Prim.Native.Nat.{ℕ, zero, suc, ◌≤◌, ◌<◌}
use native.Mathlib.Omega.{arith}
use borrow.Author.Tests.{eq-eqb, ne_eqb}
use lib.Dec.{eqb, ltb, eqb→eq}
use borrow.Author.Tests.{ltb-true, ltb-false}
use lib.IntN.{pos}
use lib.ListN.{get_or, length, take, drop, replicate}
use lib.Seq.{length-take-le}
use mathlib.Core.Bool.{Bool, true, false, not, ◌||◌}
use mathlib.Core.List.{List, ◌∷◌, ◌++◌, map}
use Rattle.std.specs.Prelude.{None, Some}
use mathlib.Core.Path.{◌≡◌, refl, sym, ap, ◌∙◌}
use Rattle.acceptance.specs.Accepting.{water_started}
use Rattle.laws.proofs.Every.{every_at}
use Rattle.numbers.specs.Arrays.{tabulate, first_places, overlaid, filled}
use Rattle.numbers.proofs.Filled.{first_length, get_or-overlaid, get_or-overlaid_past, length-overlaid, length-tabulate, overlaid-overlaid, overlaid-take, tabulate_cong, tabulate-get_or}
use Rattle.numbers.proofs.Indices.{all-tabulate}
use Rattle.numbers.proofs.Indices as indices
use Rattle.numbers.specs.Lists.{all}
use Rattle.numbers.proofs.Searches.{passed}
use Rattle.rules.specs.Layer.{Skeleton}
use Rattle.quantities.specs.Quantities.{water_limits}
use Rattle.rules.specs.Start.{resting_from, start_water}
use Rattle.rules.specs.Step.{all_on_curve}
use Rattle.start.proofs.Heights.{heights_few, heights_most}
use Rattle.start.proofs.Opened.{given_start, resting_start, unrested_start, resting_array}
use Rattle.start.specs.Rest.{all_or_none, resting_heights}

-- an array whose first places are set to 0
zeros_by_index : (n : ℕ) → replicate {A = ℕ} n 0 ≡ tabulate n (λ _. 0)
unfolding tabulate
zeros_by_index zero = refl
zeros_by_index (suc n) = ap (λ (rest : List ℕ). 0 ∷ rest) (zeros_by_index n)

pub cleared : (array front : List ℕ) (n : ℕ) → n ≤ length array → front ≡ replicate {A = ℕ} (length (take n array)) 0 → front ++ drop n array ≡ filled array n (λ _. 0)
unfolding filled overlaid
cleared array front n h e =
    rw (e, length-take-le n array h, zeros_by_index n, length-tabulate {A = ℕ} n (λ _. 0)) refl

-- ---- the water that is found

module _ (soil : Skeleton) (Bs Ss : List ℕ) (may_rest : Bool) (start : ℕ) (given : List ℕ) (load : ℕ) where
  -- the starts 0 and 2: what is given, by the test that all of it is on the curve
  pub given_found : (start ≡ 1 → ⊥) → {on : Bool} → on ≡ all_on_curve soil Ss (map pos given) →
      start_water soil Bs Ss may_rest start given load ≡ all_or_none on given
  given_found e is = given_start soil Bs Ss may_rest start given load (ne_eqb start 1 e) ∙ ap (λ (on : Bool). all_or_none on given) (sym is)

  -- start 1: what rests, and nothing over another level
  pub resting-found : start ≡ 1 → may_rest ≡ true → start_water soil Bs Ss may_rest start given load ≡ resting_from soil load Bs Ss
  resting-found e over = resting_start soil Bs Ss may_rest start given load (eq-eqb start 1 e) over

  pub unrested_found : start ≡ 1 → may_rest ≡ false → start_water soil Bs Ss may_rest start given load ≡ None
  unrested_found e over = unrested_start soil Bs Ss may_rest start given load (eq-eqb start 1 e) over

-- ---- the array that is left

module _ (n : ℕ) (before : List ℕ) (few : n ≤ length before) where
  -- an array's own first places change nothing
  own_places : overlaid (first_places n before) before ≡ before
  unfolding first_places
  own_places = rw (tabulate-get_or n before 0 few) (overlaid-take n before)

  -- the starts 0 and 2
  pub given_left : (on : Bool) → before ≡ water_started (all_or_none on (first_places n before)) before
  unfolding all_or_none water_started
  given_left true = sym own_places
  given_left false = refl

  -- start 1: heights from the lowest up, as far as the elements rest
  module _ (soil : Skeleton) (load : ℕ) (burden solids after : List ℕ)
      (is : after ≡ overlaid (resting_heights soil load (first_places n burden) (first_places n solids)) before) where
    abbrev heights : List ℕ
    heights = resting_heights soil load (first_places n burden) (first_places n solids)

    no_more : length heights ≤ n
    no_more = omega (arith, heights_few soil load (first_places n burden) (first_places n solids), first_length n burden)

    pub resting_long : length after ≡ length before
    resting_long = ap (λ (l : List ℕ). length l) is ∙ length-overlaid heights before (omega (arith, no_more))

    pub resting_most : ((j : ℕ) → j < n → get_or before j 0 ≤ water_limits.most) → (j : ℕ) → j < n → get_or after j 0 ≤ water_limits.most
    resting_most most j h = rw is (go (ltb j (length heights)) refl)
      where
        go : (below : Bool) → ltb j (length heights) ≡ below → get_or (overlaid heights before) j 0 ≤ water_limits.most
        go true e =
            rw (get_or-overlaid heights before j 0 (ltb-true _ _ e))
            (every_at (λ W. W ≤ water_limits.most) heights j 0 (heights_most soil load (first_places n burden) (first_places n solids)) (ltb-true _ _ e))
        go false e = rw (get_or-overlaid_past heights before j 0 (ltb-false _ _ e)) (most j h)

    -- all rest
    pub resting_left : resting_from soil load (first_places n burden) (first_places n solids) ≡ Some (first_places n after) →
        after ≡ overlaid (first_places n after) before
    resting_left found = resting_array soil load (first_places n burden) (first_places n solids) (first_places n after) before after found is

    -- one does not, and the heights are taken back, where no water was given
    pub cleared_left : all (λ w. eqb w 0) (first_places n before) ≡ true → filled after n (λ _. 0) ≡ before
    unfolding filled first_places
    cleared_left dry =
        let each : (j : ℕ) → j < n → 0 ≡ get_or before j 0 = λ j h.
        sym (eqb→eq (get_or before j 0) 0
        (indices.every_at n (λ i. eqb (get_or before i 0) 0) (rw (all-tabulate (λ w. eqb w 0) n (λ i. get_or before i 0)) at (passed dry)) j h)) in
        ap (λ (l : List ℕ). overlaid (tabulate n (λ _. 0)) l) is ∙
        overlaid-overlaid (tabulate n (λ _. 0)) heights before (omega (arith, no_more, length-tabulate {A = ℕ} n (λ _. 0))) ∙
        ap (λ (l : List ℕ). overlaid l before) (tabulate_cong n (λ _. 0) (λ j. get_or before j 0) each) ∙ own_places

-- no water is given in start 1
pub dry_given : (start : ℕ) (dry : Bool) → start ≡ 1 → (not (eqb start 1) || dry) ≡ true → dry ≡ true
dry_given start dry e t = rw (eq-eqb start 1 e) at t
