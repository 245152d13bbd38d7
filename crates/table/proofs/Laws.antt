-- The load table by index: what a sound one says of its points, and its load and its next time from a point on.
use Prim.Native.Nat.{ℕ, ◌+◌, ◌-◌, ◌≤◌, ◌<◌}
use borrow.Author.Tests.{lt-ltb, le-ltb, ltb-true, ltb-false, ne_eqb}
use lib.Dec.{T, ltb, eqb, ltb→lt, eqb→eq}
use lib.IntN.{ℤ, pos, ◌+ℤ◌, ◌-ℤ◌, ◌*ℤ◌}
use lib.ListN.{get_or, drop}
use lib.Signed.{◌≤ℤ◌}
use mathlib.Core.Bool.{Bool, true, false, ◌&&◌}
use mathlib.Core.List.{List}
use mathlib.Core.Path.{◌≡◌, refl, sym, ap, ◌∙◌}
use Rattle.numbers.specs.Integers.{up, down}
use Rattle.numbers.specs.Interpolation.{share}
use Rattle.numbers.specs.Lists.{all, neighbours, first_or}
use Rattle.numbers.specs.Rounding.{cut}
use Rattle.numbers.proofs.Searches.{passed, both}
use Rattle.numbers.proofs.Shares.{interpolates}
use Rattle.numbers.proofs.Signed.{signed, one_sided, add_parts, sub_parts, up-mul, down-mul, up-cut, down-cut}
use Rattle.rules.specs.Curve.{Point, points}
use Rattle.rules.specs.Load.{first_point, table_sound, load_at, next_time}
use Rattle.quantities.specs.Quantities.{within, clock_limits, stress_limits}
use Rattle.quantities.proofs.Limits.{within_parts}
use Rattle.rules.proofs.Points.{from_point, from_segment, from_end, from_last, all_at, neighbours_at}
use Rattle.points.specs.Checks.{point_within, follows}
use Rattle.points.specs.declared.checks.Trend.TheVariants.{Later}

-- what a sound table says of its points
pub record Tabled (n : ℕ) (time load : List ℕ) : Type 0 where
  pub first_time : 0 < n → get_or time 0 0 ≡ 0
  pub time_rises : (i : ℕ) → i + 1 < n → get_or time i 0 < get_or time (i + 1) 0
  pub time_high : (i : ℕ) → i < n → get_or time i 0 ≤ clock_limits.most
  pub load_high : (i : ℕ) → i < n → get_or load i 0 ≤ stress_limits.most

-- the load when a part of a segment's whole time has passed
abbrev pub segment_load : (load0 load1 part whole : ℕ) → ℤ
segment_load load0 load1 part whole = pos load0 +ℤ cut ((pos load1 -ℤ pos load0) *ℤ pos part) whole

module _ (load0 load1 part whole : ℕ) (positive : 0 < whole) (reached : part ≤ whole) where
  abbrev change : ℤ
  change = pos load1 -ℤ pos load0

  abbrev changed : ℤ
  changed = cut (change *ℤ pos part) whole

  -- a part of a change has the change's sign and at most its size
  up_changed : up changed ≤ up change
  unfolding share
  up_changed =
      rw (up-cut (change *ℤ pos part) whole, up-mul change part) ((interpolates (up change) whole positive).between part reached)

  down_changed : down changed ≤ down change
  unfolding share
  down_changed =
      rw (down-cut (change *ℤ pos part) whole, down-mul change part) ((interpolates (down change) whole positive).between part reached)

  -- a segment's load is not negative, and at most what its two loads are at most
  pub segment_stress : (most : ℕ) → load0 ≤ most → load1 ≤ most →
      (pos 0 ≤ℤ segment_load load0 load1 part whole) × (segment_load load0 load1 part whole ≤ℤ pos most)
  segment_stress most h k =
      let u = up_changed in
      let d = down_changed in
      let c = sub_parts (pos load1) (pos load0) in
      let o = one_sided change in
      let s = add_parts (pos load0) changed in
      (omega signed, omega signed)

module _ (n : ℕ) (time load : List ℕ) where
  abbrev table : List Point
  table = points n time load

  -- the first time, if there is one
  first_some : 0 < n → (first_point table).abscissa ≡ get_or time 0 0
  unfolding first_point first_or
  first_some h = ap (λ (t : List Point). (first_point t).abscissa) (from_point n time load 0 h)

  first_none : n ≤ 0 → (first_point table).abscissa ≡ 0
  unfolding first_point first_or
  first_none h = ap (λ (t : List Point). (first_point t).abscissa) (from_end n time load 0 h)

  -- the three tests of a table
  abbrev begins : Bool
  begins = eqb (first_point table).abscissa 0

  abbrev follow : Bool
  follow = neighbours (follows Later) table

  abbrev limited : Bool
  limited = all (point_within clock_limits stress_limits) table

  tests : table_sound table ≡ begins && follow && limited
  unfolding table_sound follows
  tests = refl

  -- a table whose first time is not 0 is not sound; of any other the tests of neighbours and of points say whether it is
  pub begins_late : 0 < n → (get_or time 0 0 ≡ 0 → ⊥) → table_sound table ≡ false
  begins_late h k = tests ∙ rw (first_some h, ne_eqb (get_or time 0 0) 0 k)

  pub begins_at_0 : get_or time 0 0 ≡ 0 → table_sound table ≡ follow && limited
  begins_at_0 start = tests ∙ rw (go (ltb 0 n) refl)
    where
      go : (some : Bool) → ltb 0 n ≡ some → (first_point table).abscissa ≡ 0
      go true e = first_some (ltb-true 0 n e) ∙ start
      go false e = first_none (ltb-false 0 n e)

  pub begins_nowhere : n ≤ 0 → table_sound table ≡ follow && limited
  begins_nowhere h = tests ∙ rw (first_none h)

  -- what a sound table says, by index
  module _ (sound : table_sound table ≡ true) where
    passes : (T begins × T follow) × T limited
    passes =
        let (front, rest) = both (begins && follow) limited (passed (sym tests ∙ sound)) in (both begins follow front, rest)

    rises : (i : ℕ) → i + 1 < n → get_or time i 0 < get_or time (i + 1) 0
    unfolding follows
    rises i h = ltb→lt (get_or time i 0) (get_or time (i + 1) 0) (neighbours_at n time load (follows Later) passes.0.1 i h)

    high : (i : ℕ) → i < n → (get_or time i 0 ≤ clock_limits.most) × (get_or load i 0 ≤ stress_limits.most)
    high i h =
        let kept = all_at n time load (point_within clock_limits stress_limits) passes.1 i h in
        let (t, l) = both (within clock_limits (get_or time i 0)) (within stress_limits (get_or load i 0)) kept in
        ((within_parts clock_limits (get_or time i 0) t).1, (within_parts stress_limits (get_or load i 0) l).1)

    pub tabled : Tabled n time load
    tabled = record {
      first_time = λ h. sym (first_some h) ∙ eqb→eq _ _ passes.0.0;
      time_rises = rises;
      time_high = λ i h. (high i h).0;
      load_high = λ i h. (high i h).1;
    }

  -- the load from a point on: between it and the next, later, and from the last point on
  module _ (i now : ℕ) where
    pub load_here : i + 1 < n → now < get_or time (i + 1) 0 → load_at (drop i table) now ≡
        segment_load (get_or load i 0) (get_or load (i + 1) 0) (now - get_or time i 0) (get_or time (i + 1) 0 - get_or time i 0)
    unfolding load_at
    load_here h k = rw (from_segment n time load i h, lt-ltb now (get_or time (i + 1) 0) k, load_at)

    pub load_later : i + 1 < n → get_or time (i + 1) 0 ≤ now → load_at (drop i table) now ≡ load_at (drop (i + 1) table) now
    unfolding load_at
    load_later h k =
        rw (from_segment n time load i h, from_point n time load (i + 1) h, le-ltb now (get_or time (i + 1) 0) k, load_at)

    pub load_last : i + 1 ≡ n → load_at (drop i table) now ≡ pos (get_or load i 0)
    unfolding load_at
    load_last h = rw (from_last n time load i h)

    -- the next time from a point on: the point's own, later, and none past the last point
    module _ (otherwise : ℕ) where
      pub next_here : i < n → now < get_or time i 0 → next_time (drop i table) now otherwise ≡ get_or time i 0
      unfolding next_time
      next_here h k = rw (from_point n time load i h, lt-ltb now (get_or time i 0) k, next_time)

      pub next_later : i < n → get_or time i 0 ≤ now → next_time (drop i table) now otherwise ≡ next_time (drop (i + 1) table) now otherwise
      unfolding next_time
      next_later h k = rw (from_point n time load i h, le-ltb now (get_or time i 0) k, next_time)

      pub next_none : n ≤ i → next_time (drop i table) now otherwise ≡ otherwise
      unfolding next_time
      next_none h = rw (from_end n time load i h)
