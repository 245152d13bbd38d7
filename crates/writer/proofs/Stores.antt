-- The stores of a job's bytes, one after the other.
use Prim.Native.Nat.{ℕ, ◌+◌, ◌*◌, ◌≤◌}
use native.Mathlib.Nat.{zero-add}
use native.Mathlib.Omega.{arith}
use lib.ListN.{length, get_or, length-append}
use lib.Seq.{sets}
use mathlib.Core.List.{List, [], ◌++◌}
use mathlib.Core.Path.{◌≡◌, refl, ap, ◌∙◌}
use Rattle.encoding.proofs.Stores.{sets_then, sets_front}
use Rattle.numbers.specs.Arrays.{tabulate, overlaid}
use Rattle.numbers.specs.Bytes.{bytes}
use Rattle.numbers.specs.Lists.{appended}
use Rattle.numbers.proofs.Appended.{appended_more, length-appended}
use Rattle.numbers.proofs.Filled.{tabulate_more}
use Rattle.rules.specs.Job.{Description, header_length, job_length, pair_length}
use Rattle.rules.specs.declared.job.Header.{Header}
use Rattle.writer.specs.Writing.{header_bytes, pair_bytes, pairs_bytes, job_bytes}

-- a header's length, and a pair's
pub header_length_lem : (h : Header) → length (header_bytes h) ≡ header_length
unfolding header_bytes bytes
header_length_lem h = refl

pub pair-length : (first second : ℕ) → length (pair_bytes first second) ≡ pair_length
unfolding pair_bytes bytes
pair-length first second = refl

module _ (firsts seconds : List ℕ) where
  -- the pair at an index
  abbrev pub pair_at : ℕ → List ℕ
  pair_at i = pair_bytes (get_or firsts i 0) (get_or seconds i 0)

  -- no pair
  pub pairs_none : pairs_bytes 0 firsts seconds ≡ []
  unfolding pairs_bytes
  pairs_none = refl

  -- one pair more comes last
  pub pairs_more : (n : ℕ) → pairs_bytes (n + 1) firsts seconds ≡ pairs_bytes n firsts seconds ++ pair_at n
  unfolding pairs_bytes
  pairs_more n = ap appended (tabulate_more n pair_at) ∙ appended_more (tabulate n pair_at) (pair_at n)

  pub pairs_length : (n : ℕ) → length (pairs_bytes n firsts seconds) ≡ pair_length * n
  unfolding pairs_bytes
  pairs_length n = length-appended pair_length n pair_at (λ i h. pair-length (get_or firsts i 0) (get_or seconds i 0))

  -- one pair more is stored after the others
  pub pairs_stored : (l : List ℕ) (at n : ℕ) {out next : List ℕ} → out ≡ sets l at (pairs_bytes n firsts seconds) →
      next ≡ sets out (at + pair_length * n) (pair_at n) → next ≡ sets l at (pairs_bytes (n + 1) firsts seconds)
  pairs_stored l at n others one =
      rw (pairs_more n) (sets_then l at (pairs_bytes n firsts seconds) (pair_at n) {j = at + pair_length * n} others (rw (pairs_length n)) one)

-- ---- a whole job

module _ (d : Description) where
  -- up to its elements, to the points of either curve, and to its table
  abbrev pub through_elements : List ℕ
  through_elements = header_bytes d.header ++ pairs_bytes d.header.elements d.solids d.water

  abbrev pub through_compressibility : List ℕ
  through_compressibility = through_elements ++ pairs_bytes d.header.compressibility_points d.compressibility_stress d.compressibility_void

  abbrev pub through_conductivity : List ℕ
  through_conductivity = through_compressibility ++ pairs_bytes d.header.conductivity_points d.conductivity_void d.conductivity

  abbrev compressibility_at : ℕ
  compressibility_at = header_length + pair_length * d.header.elements

  abbrev conductivity_at : ℕ
  conductivity_at = compressibility_at + pair_length * d.header.compressibility_points

  abbrev table_at : ℕ
  table_at = conductivity_at + pair_length * d.header.conductivity_points

  -- where each begins
  pub elements_length : length through_elements ≡ compressibility_at
  elements_length = simp (length-append, header_length_lem, pairs_length)

  pub compressibility_length : length through_compressibility ≡ conductivity_at
  compressibility_length = simp (length-append, header_length_lem, pairs_length)

  pub conductivity_length : length through_conductivity ≡ table_at
  conductivity_length = simp (length-append, header_length_lem, pairs_length)

  pub job_length_lem : length (job_bytes d) ≡ job_length d.header
  unfolding job_bytes job_length
  job_length_lem = simp (length-append, pairs_length) (omega arith)

  -- all its parts are stored, one after the other
  pub job_stored : (l : List ℕ) {headed first second third fourth : List ℕ} → headed ≡ sets l 0 (header_bytes d.header) →
      first ≡ sets headed header_length (pairs_bytes d.header.elements d.solids d.water) →
      second ≡ sets first compressibility_at (pairs_bytes d.header.compressibility_points d.compressibility_stress d.compressibility_void) →
      third ≡ sets second conductivity_at (pairs_bytes d.header.conductivity_points d.conductivity_void d.conductivity) →
      fourth ≡ sets third table_at (pairs_bytes d.header.table_points d.table_time d.table_load) →
      job_length d.header ≤ length l → fourth ≡ overlaid (job_bytes d) l
  unfolding job_bytes
  job_stored l header elements compressibility conductivity table room =
      sets_then l 0 through_conductivity (pairs_bytes d.header.table_points d.table_time d.table_load)
      (sets_then l 0 through_compressibility (pairs_bytes d.header.conductivity_points d.conductivity_void d.conductivity)
      (sets_then l 0 through_elements (pairs_bytes d.header.compressibility_points d.compressibility_stress d.compressibility_void)
      (sets_then l 0 (header_bytes d.header) (pairs_bytes d.header.elements d.solids d.water) header (zero-add _ ∙ header_length_lem d.header) elements)
      (zero-add _ ∙ elements_length) compressibility) (zero-add _ ∙ compressibility_length) conductivity)
      (zero-add _ ∙ conductivity_length) table ∙
      sets_front l (job_bytes d) (rw job_length_lem room)
