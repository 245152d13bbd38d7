-- Arrays of segments, one place and one reading after another.
use Prim.Native.Nat.{ℕ, ◌+◌, ◌≤◌, ◌<◌}
use native.Mathlib.Nat.{le_refl}
use native.Mathlib.Omega.{arith}
use borrow.Author.Count.{below_more}
use lib.ListN.{length, get_or, set}
use lib.Seq.{get_or-set_same, get_or-set_other}
use mathlib.Core.List.{List}
use mathlib.Core.Path.{◌≡◌, refl, sym, ap, ◌∙◌}
use Rattle.layer.specs.Segments.{Segments}
use Rattle.numbers.specs.Arrays.{first_places, overlaid, filled}
use Rattle.numbers.proofs.Filled.{first_length, length-overlaid, overlaid-overlaid, filled_cong, filled_store}

module _ {points : ℕ} {before : List ℕ} where
  -- no place yet
  pub segments_none : Segments 0 points before before
  unfolding overlaid first_places
  segments_none = record { is_on_curve = λ j h. absurd (omega arith); kept = refl }

  module _ {count : ℕ} {after : List ℕ} (segments : Segments count points before after) where
    -- the array is as long as before
    pub segments_length : {size : ℕ} → length before ≡ size → count ≤ size → length after ≡ size
    segments_length long few =
        ap (λ (l : List ℕ). length l) segments.kept ∙
        length-overlaid (first_places count after) before (rw (first_length count after, long) few) ∙ long

    -- one place more, as a loop stores it
    pub segments_store : (segment : ℕ) → count < length before → segment + 1 < points →
        Segments (count + 1) points before (set after count segment)
    unfolding filled first_places
    segments_store segment h s =
        let stored = set after count segment in
        let long = segments_length refl (omega arith) in
        let here : get_or stored count 0 ≡ segment = get_or-set_same after count segment 0 (omega arith) in
        let there : (j : ℕ) → j < count → get_or stored j 0 ≡ get_or after j 0 = λ j k. get_or-set_other after count j segment 0 (λ e. omega arith) in
        record {
          is_on_curve = below_more _ count (λ j k. rw (there j k) (segments.is_on_curve j k)) (rw here s);
          kept = filled_store before after count (λ j. get_or stored j 0) segment h
              (segments.kept ∙ filled_cong before count (λ j. get_or after j 0) (λ j. get_or stored j 0) (λ j k. sym (there j k))) (sym here);
        }

    -- the elements read again
    pub segments_again : {again : List ℕ} → Segments count points after again → Segments count points before again
    segments_again {again = again} next = record {
      is_on_curve = next.is_on_curve;
      kept = next.kept ∙ ap (λ (l : List ℕ). overlaid (first_places count again) l) segments.kept ∙
          overlaid-overlaid (first_places count again) (first_places count after) before (rw (first_length count again, first_length count after) (le_refl count));
    }
