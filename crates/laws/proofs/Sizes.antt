-- What sound sizes say of levels, solids and water.
use Prim.Native.Nat.{ℕ, ◌≤◌, ◌<◌}
use lib.Dec.{T}
use lib.IntN.{ℤ, pos, negsuc}
use lib.ListN.{get_or}
use mathlib.Core.Bool.{true, ◌&&◌}
use mathlib.Core.List.{List}
use mathlib.Core.Path.{◌≡◌}
use Rattle.laws.specs.Amid.{Between}
use Rattle.numbers.specs.Arrays.{first_places}
use Rattle.numbers.proofs.Indices.{all-tabulate, every_at}
use Rattle.numbers.specs.Lists.{all}
use Rattle.numbers.proofs.Searches.{passed, both}
use Rattle.numbers.proofs.Signed.{signed}
use Rattle.quantities.proofs.Limits.{within_parts}
use Rattle.rules.specs.Layer.{Site}
use Rattle.quantities.specs.Quantities.{within, within_ℤ, level_limits, solids_limits, water_limits}
use Rattle.quantities.specs.declared.quantity.Limits.{Limits}
use Rattle.rules.specs.Record.{closed_at_zero, heights_sound, sizes_sound}

-- a signed number that keeps limits from 0 up lies between them
pub signed_between : (limits : Limits) (z : ℤ) → T (within_ℤ limits z) → Between (pos limits.least) (pos limits.most) z
unfolding within_ℤ
signed_between limits (pos n) t = let (l, m) = within_parts limits n t in (omega signed, omega signed)
signed_between limits (negsuc n) t = absurd t

-- what all first places keep, each keeps
pub each_within : (limits : Limits) (n : ℕ) (numbers : List ℕ) → T (all (within limits) (first_places n numbers)) → (j : ℕ) → j < n →
    (limits.least ≤ get_or numbers j 0) × (get_or numbers j 0 ≤ limits.most)
unfolding first_places
each_within limits n numbers t j h =
    within_parts limits (get_or numbers j 0)
    (every_at n (λ i. within limits (get_or numbers i 0)) (rw (all-tabulate (within limits) n (λ i. get_or numbers i 0)) at t) j h)

pub record SoundSizes (n : ℕ) (top_level bottom_level : ℤ) (solids water : List ℕ) : Type 0 where
  pub top_level_kept : Between (pos 0) (pos level_limits.most) top_level
  pub bottom_level_kept : Between (pos 0) (pos level_limits.most) bottom_level
  pub solids_least : (j : ℕ) → j < n → solids_limits.least ≤ get_or solids j 0
  pub solids_most : (j : ℕ) → j < n → get_or solids j 0 ≤ solids_limits.most
  pub water_most : (j : ℕ) → j < n → get_or water j 0 ≤ water_limits.most

pub sound_sizes : (site : Site) (n : ℕ) (solids water : List ℕ) → site.solids ≡ first_places n solids →
    sizes_sound site (first_places n water) ≡ true → SoundSizes n site.top_level site.bottom_level solids water
unfolding sizes_sound
sound_sizes site n solids water same e =
    let levels = within_ℤ level_limits site.top_level && within_ℤ level_limits site.bottom_level in
    let three = levels && closed_at_zero site.bottom site.bottom_level in
    let (first3, heights) = both three (heights_sound site.solids (first_places n water)) (passed e) in
    let (solid, waters) = both (all (within solids_limits) site.solids) (all (within water_limits) (first_places n water)) heights in
    let (first2, closed) = both levels (closed_at_zero site.bottom site.bottom_level) first3 in
    let (top, bottom) = both (within_ℤ level_limits site.top_level) (within_ℤ level_limits site.bottom_level) first2 in
    let all-solids : T (all (within solids_limits) (first_places n solids)) = rw (same) at solid in
    record {
      top_level_kept = signed_between level_limits site.top_level top;
      bottom_level_kept = signed_between level_limits site.bottom_level bottom;
      solids_least = λ j h. (each_within solids_limits n solids all-solids j h).0;
      solids_most = λ j h. (each_within solids_limits n solids all-solids j h).1;
      water_most = λ j h. (each_within water_limits n water waters j h).1;
    }
