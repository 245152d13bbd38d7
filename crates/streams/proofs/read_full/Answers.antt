use Rattle.std.proofs.Common.{◌≡◌, ℕ, ◌+◌, ◌-◌, ◌≤◌, List, ◌++◌, rules, arith, length, take, slice_range, sym, ap, ◌∙◌, subst, le_refl, drop_at, length-take-le}
use Rattle.std.proofs.lemmas.Slice.{take-put_mid_below}
use Rattle.std.specs.Io.KnownBytes.{Consumes}
use Rattle.std.proofs.KnownBytes.{Consumes-trans}
use borrow.Rule.Slice.PartMut.{put_mid, post_of}
use lib.Seq.{take-add, take-append-le}
use Rattle.streams.proofs.read_full.Goals as goal

-- what a slice from a place on is overwritten with stands there
written : (from room n : ℕ) (xs ys : List ℕ) → from ≤ length xs → n ≤ length ys →
    slice_range (put_mid from room xs ys) from (from + n) ≡ take n ys
written from room n xs ys within fits =
    let same : (from + n) - from ≡ n = omega arith in
    let after = post_of from room xs in
    ap (take ((from + n) - from)) (drop_at (take from xs) (ys ++ after) from (length-take-le from xs within)) ∙
    ap (λ m. take m (ys ++ after)) same ∙ take-append-le n ys after fits

-- the front that was read, and then what is read
joined : (from n : ℕ) (old new : List ℕ) → take from new ≡ take from old →
    take from old ++ slice_range new from (from + n) ≡ take (from + n) new
joined from n old new front =
    let same : from + ((from + n) - from) ≡ from + n = omega arith in
    ap (λ l. l ++ slice_range new from (from + n)) (sym front) ∙ sym (take-add from ((from + n) - from) new) ∙
    ap (λ m. take m new) same

pub loop-done-preserved : goal.loop-done-preserved
loop-done-preserved g c =
    let from = c.loop-done.done in
    let n = c.in_ok-read.read in
    let old = c.loop-done.buffer in
    let new = put_mid from (length old - from) old c.read.new.buf in
    let within = c.loop-done.invariant.within in
    let part = written from (length old - from) n old c.read.new.buf within c.in_ok-read.ensures.bound.0 in
    let whole = joined from n old new (take-put_mid_below _ _ _ _ _ (le_refl _) within) in
    record {
      same_length = search rules;
      within = search rules;
      bytes =
          subst (Consumes _ _) (ap (λ l. take from old ++ l) (sym part) ∙ whole)
          (Consumes-trans _ _ _ _ _ c.loop-done.invariant.bytes c.in_ok-read.ensures.bytes.0);
    }
