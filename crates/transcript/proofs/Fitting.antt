-- Bytes that give a record are as long as their fields say.
use Prim.Native.Nat.{ℕ, ◌+◌, ◌*◌, ◌≤◌}
use native.Mathlib.Omega.{arith}
use borrow.Author.Tests.{leb-true, eqb-true}
use lib.ListN.{length}
use mathlib.Core.Bool.{Bool, true, false, ◌&&◌}
use mathlib.Core.List.{List}
use mathlib.Core.Path.{◌≡◌, refl}
use Rattle.numbers.specs.Bytes.{field}
use Rattle.transcript.specs.Input.{is_record, table_at, second_curve_at, first_curve_at}

-- every field is there, and every pair; the arrays can hold the pairs
pub record Fits (body : List ℕ) : Type 0 where
  pub fields : 160 ≤ length body
  pub elements : field 8 128 body ≤ 128
  pub first : field 8 136 body ≤ 64
  pub second : field 8 144 body ≤ 64
  pub table : field 8 152 body ≤ 64
  pub first_at : first_curve_at body ≡ 160 + 16 * field 8 128 body
  pub second_at : second_curve_at body ≡ first_curve_at body + 16 * field 8 136 body
  pub table_at_lem : table_at body ≡ second_curve_at body + 16 * field 8 144 body
  pub whole : length body ≡ table_at body + 16 * field 8 152 body

both : (a b : Bool) → a && b ≡ true → (a ≡ true) × (b ≡ true)
both true b e = (refl, e)
both false b e = absurd (let z : ◌≡◌ {A = ℕ} 0 1 = cc in omega arith)

pub fitting : (body : List ℕ) → is_record body ≡ true → Fits body
unfolding is_record table_at second_curve_at first_curve_at
fitting body e =
    let (f, whole) = both _ _ e in
    let (g, table) = both _ _ f in
    let (h, second) = both _ _ g in
    let (i, first) = both _ _ h in
    let (fields, elements) = both _ _ i in
    record {
      fields = leb-true _ _ fields;
      elements = leb-true _ _ elements;
      first = leb-true _ _ first;
      second = leb-true _ _ second;
      table = leb-true _ _ table;
      first_at = refl;
      second_at = refl;
      table_at_lem = refl;
      whole = eqb-true _ _ whole;
    }
