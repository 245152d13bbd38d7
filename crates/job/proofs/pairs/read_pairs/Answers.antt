use native.Mathlib.Omega.{arith}
use Prim.Native.Nat.{ℕ, ◌+◌, ◌*◌}
use lib.ListN.{length}
use mathlib.Core.List.{List}
use mathlib.Core.Path.{◌≡◌, refl, ap, ◌∙◌}
use Rattle.numbers.proofs.Filled.{length-zeros}
use Rattle.job.proofs.Counts.{Counted, counted}
use Rattle.job.proofs.Reading.{firsts_read, conductivity_at, table_at_lem, second_at}
use Rattle.rules.specs.Job.{described, seconds}
use Rattle.rules.specs.declared.job.Header.{Header}
use Rattle.job.proofs.pairs.read_pairs.Goals as goal
use Rattle.job.proofs.pairs.read_pairs.Lts as lts
use Rattle.job.proofs.pairs.read_pairs.Reads as reads
use Rattle.job.proofs.pairs.read_pairs.Tie as tie

abbrev s : lts.After-shared_slice_known tie.the-claims reads.Pre reads.Post tie.handed_clauses → lts.Start tie.the-claims reads.Pre reads.Post tie.handed_clauses
s c = c.before

-- the counts
as_read : (c : lts.After-shared_slice_known tie.the-claims reads.Pre reads.Post tie.handed_clauses) →
    let h = (s c).args.header in
    Counted h.elements h.compressibility_points h.conductivity_points h.table_points (length (s c).args.job.now)
as_read c = counted (s c).args.header _ (s c).requires.header_value_2.0 (s c).requires.header_value_2.1

pub overflow_mul-compressibility_at : goal.overflow_mul-compressibility_at
overflow_mul-compressibility_at c = omega (arith, as_read c.before)

pub overflow_add-compressibility_at : goal.overflow_add-compressibility_at
overflow_add-compressibility_at c = omega (arith, as_read c.before)

pub overflow_mul-conductivity_at : goal.overflow_mul-conductivity_at
overflow_mul-conductivity_at c = omega (arith, as_read c.before)

pub overflow_add-conductivity_at : goal.overflow_add-conductivity_at
overflow_add-conductivity_at c = omega (arith, as_read c.before)

pub overflow_mul-table_at : goal.overflow_mul-table_at
overflow_mul-table_at c = omega (arith, as_read c.before)

pub overflow_add-table_at : goal.overflow_add-table_at
overflow_add-table_at c = omega (arith, as_read c.before)

pub read_column-requires : goal.read_column-requires
read_column-requires c =
    let b = c.before.before in
    let long : length (s b).args.solids.now ≡ 128 = ap (λ (l : List ℕ). length l) (s b).requires.blank.solids_blank ∙ length-zeros 128 in
    (omega (arith, as_read b, long), omega (arith, as_read b))

pub read_column-requires-2 : goal.read_column-requires-2
read_column-requires-2 c =
    let b = c.before.before.before.before in
    let long : length (s b).args.water.now ≡ 128 = ap (λ (l : List ℕ). length l) (s b).requires.blank.water_blank ∙ length-zeros 128 in
    (omega (arith, as_read b, long), omega (arith, as_read b))

pub read_column-requires-3 : goal.read_column-requires-3
read_column-requires-3 c =
    let b = c.before.before.before.before.before.before in
    let long : length (s b).args.compressibility_stress.now ≡ 64 = ap (λ (l : List ℕ). length l) (s b).requires.blank.compressibility_stress_blank ∙ length-zeros 64 in
    (omega (arith, as_read b, long), omega (arith, as_read b))

pub overflow_add-compressibility_at-2 : goal.overflow_add-compressibility_at-2
overflow_add-compressibility_at-2 c = omega (arith, as_read c.before.before.before.before.before.before.before)

pub read_column-requires-4 : goal.read_column-requires-4
read_column-requires-4 c =
    let b = c.before.before.before.before.before.before.before.before in
    let long : length (s b).args.compressibility_void.now ≡ 64 = ap (λ (l : List ℕ). length l) (s b).requires.blank.compressibility_void_blank ∙ length-zeros 64 in
    (omega (arith, as_read b, long), omega (arith, as_read b))

pub read_column-requires-5 : goal.read_column-requires-5
read_column-requires-5 c =
    let b = c.before.before.before.before.before.before.before.before.before.before in
    let long : length (s b).args.conductivity_void.now ≡ 64 = ap (λ (l : List ℕ). length l) (s b).requires.blank.conductivity_void_blank ∙ length-zeros 64 in
    (omega (arith, as_read b, long), omega (arith, as_read b))

pub overflow_add-conductivity_at-2 : goal.overflow_add-conductivity_at-2
overflow_add-conductivity_at-2 c = omega (arith, as_read c.before.before.before.before.before.before.before.before.before.before.before)

pub read_column-requires-6 : goal.read_column-requires-6
read_column-requires-6 c =
    let b = c.before.before.before.before.before.before.before.before.before.before.before.before in
    let long : length (s b).args.conductivity.now ≡ 64 = ap (λ (l : List ℕ). length l) (s b).requires.blank.conductivity_blank ∙ length-zeros 64 in
    (omega (arith, as_read b, long), omega (arith, as_read b))

pub read_column-requires-7 : goal.read_column-requires-7
read_column-requires-7 c =
    let b = c.before.before.before.before.before.before.before.before.before.before.before.before.before.before in
    let long : length (s b).args.table_time.now ≡ 64 = ap (λ (l : List ℕ). length l) (s b).requires.blank.table_time_blank ∙ length-zeros 64 in
    (omega (arith, as_read b, long), omega (arith, as_read b))

pub overflow_add-table_at-2 : goal.overflow_add-table_at-2
overflow_add-table_at-2 c = omega (arith, as_read c.before.before.before.before.before.before.before.before.before.before.before.before.before.before.before)

pub read_column-requires-8 : goal.read_column-requires-8
read_column-requires-8 c =
    let b = c.before.before.before.before.before.before.before.before.before.before.before.before.before.before.before.before in
    let long : length (s b).args.table_load.now ≡ 64 = ap (λ (l : List ℕ). length l) (s b).requires.blank.table_load_blank ∙ length-zeros 64 in
    (omega (arith, as_read b, long), omega (arith, as_read b))

pub returns : goal.returns
unfolding described seconds
returns c =
    let b = c.before.before.before.before.before.before.before.before.before.before.before.before.before.before.before.before.before in
    let same = (s b).requires.header_value in
    let n = ap (λ (h : Header). h.elements) same in
    let m = ap (λ (h : Header). h.compressibility_points) same in
    let k = ap (λ (h : Header). h.conductivity_points) same in
    let times = ap (λ (h : Header). h.table_points) same in
    let blank = (s b).requires.blank in
    let curve-at = ap (λ (x : ℕ). 48 + 16 * x) n in
    record {
      solids_held = firsts_read 128 _ blank.solids_blank refl n c.read_column.ensures;
      water_held = firsts_read 128 _ blank.water_blank refl n c.read_column-2.ensures;
      compressibility_stress_held = firsts_read 64 _ blank.compressibility_stress_blank curve-at m c.read_column-3.ensures;
      compressibility_void_held = firsts_read 64 _ blank.compressibility_void_blank (second_at curve-at) m c.read_column-4.ensures;
      conductivity_void_held = firsts_read 64 _ blank.conductivity_void_blank (conductivity_at n m) k c.read_column-5.ensures;
      conductivity_held = firsts_read 64 _ blank.conductivity_blank (second_at (conductivity_at n m)) k c.read_column-6.ensures;
      table_time_held = firsts_read 64 _ blank.table_time_blank (table_at_lem n m k) times c.read_column-7.ensures;
      table_load_held = firsts_read 64 _ blank.table_load_blank (second_at (table_at_lem n m k)) times c.read_column-8.ensures;
    }
