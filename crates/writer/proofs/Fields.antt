-- The fields of a written job, as they are read again.
use Prim.Native.Nat.{ℕ, ◌+◌, ◌*◌, ◌^◌, ◌≤◌, ◌<◌}
use native.Mathlib.Nat.{add-zero}
use native.Mathlib.Omega.{arith}
use lib.ListN.{length, get_or, length-append}
use mathlib.Core.Bool.{true}
use mathlib.Core.List.{List, ◌++◌}
use mathlib.Core.Path.{◌≡◌, refl, sym, ap, ◌∙◌}
use Rattle.numbers.specs.Arrays.{zeros}
use Rattle.numbers.specs.Bytes.{number, field, column}
use Rattle.numbers.proofs.Appended.{field-appended}
use Rattle.numbers.proofs.Filled.{filled_cong}
use Rattle.numbers.proofs.LittleEndian.{field_front, field_past, number_bytes_lt}
use Rattle.laws.proofs.SoundHeader.{kept_header}
use Rattle.rules.specs.Job.{described, firsts, header_sound, marked, pair_length, seconds}
use Rattle.rules.specs.declared.job.Header.{Header}
use Rattle.writer.specs.RoundTrips.{up_to}
use Rattle.writer.specs.Writing.{header_bytes, pair_bytes, pairs_bytes}
use Rattle.writer.proofs.Stores.{pair-length, pairs_length, pair_at}

-- numbers that eight bytes hold
abbrev pub InWord : ℕ → Type 0
InWord n = n < 256 ^ 8

-- ---- a header, at the beginning

module _ (h : Header) (rest : List ℕ) where
  abbrev written : List ℕ
  written = header_bytes h ++ rest

  -- its mark, its version and the two bytes that are not used
  pub marked_again : marked written ≡ true
  unfolding header_bytes marked
  marked_again = refl

  pub version_again : field 2 3 written ≡ 1
  unfolding header_bytes field
  version_again = refl

  pub unused_again : field 2 14 written ≡ 0
  unfolding header_bytes field
  unused_again = refl

  -- its numbers
  pub header_again : header_sound h ≡ true → InWord h.top_level → InWord h.bottom_level → InWord h.end → InWord h.budget →
      (described written).header ≡ h
  unfolding header_bytes described
  header_again kept top bottom end budget =
      let s = kept_header h kept in
      let byte = number_bytes_lt 1 in
      λ i. record {
        top = byte h.top (omega (arith, s.top_kept.most)) i;
        bottom = byte h.bottom (omega (arith, s.bottom_kept.most)) i;
        elements = byte h.elements (omega (arith, s.elements_kept.most)) i;
        compressibility_points = byte h.compressibility_points (omega (arith, s.compressibility_kept.most)) i;
        conductivity_points = byte h.conductivity_points (omega (arith, s.conductivity_kept.most)) i;
        table_points = byte h.table_points (omega (arith, s.table_kept.most)) i;
        start = byte h.start (omega (arith, s.start_kept.most)) i;
        gravity = number_bytes_lt 2 h.gravity (omega (arith, s.gravity_kept.most)) i;
        top_level = number_bytes_lt 8 h.top_level top i;
        bottom_level = number_bytes_lt 8 h.bottom_level bottom i;
        end = number_bytes_lt 8 h.end end i;
        budget = number_bytes_lt 8 h.budget budget i;
      }

-- ---- pairs, wherever they stand

pair_first : (first second : ℕ) → InWord first → field 8 0 (pair_bytes first second) ≡ first
unfolding pair_bytes field number
pair_first first second h = number_bytes_lt 8 first h

pair_second : (first second : ℕ) → InWord second → field 8 8 (pair_bytes first second) ≡ second
unfolding pair_bytes field number
pair_second first second h = number_bytes_lt 8 second h

module _ (before after : List ℕ) (offset n : ℕ) (xs ys : List ℕ) (begins : length before ≡ offset) where
  abbrev job : List ℕ
  job = before ++ pairs_bytes n xs ys ++ after

  -- a field of the pair at an index
  pair-field : (place i : ℕ) → place + 8 ≤ pair_length → i < n → column pair_length (offset + place) job i ≡ field 8 place (pair_at xs ys i)
  unfolding column pairs_bytes
  pair-field place i fits h =
      let front = field_front 8 (offset + place + pair_length * i) (before ++ pairs_bytes n xs ys) after
      (omega (arith, length-append before (pairs_bytes n xs ys), pairs_length xs ys n)) in
      let at : offset + place + pair_length * i ≡ length before + (pair_length * i + place) = omega arith in
      front ∙ ap (λ (k : ℕ). field 8 k (before ++ pairs_bytes n xs ys)) at ∙ field_past 8 (pair_length * i + place) before (pairs_bytes n xs ys) ∙
      field-appended pair_length n (pair_at xs ys) (λ i h. pair-length (get_or xs i 0) (get_or ys i 0)) 8 place i h fits

  -- both columns are the arrays, up to the count
  pub pairs_again : (size : ℕ) {job' : List ℕ} {offset' n' : ℕ} → job' ≡ job → offset' ≡ offset → n' ≡ n →
      ((i : ℕ) → i < n → InWord (get_or xs i 0) × InWord (get_or ys i 0)) →
      (firsts size offset' n' job' ≡ up_to size n xs) × (seconds size offset' n' job' ≡ up_to size n ys)
  unfolding seconds firsts up_to
  pairs_again size j o m fits = (
    (λ i. firsts size (o i) (m i) (j i)) ∙
        filled_cong (zeros size) n (column pair_length offset job) (λ i. get_or xs i 0)
        (λ i h.
        ap (λ (k : ℕ). column pair_length k job i) (sym (add-zero offset)) ∙ pair-field 0 i (omega arith) h ∙
        pair_first (get_or xs i 0) (get_or ys i 0) (fits i h).0),
    (λ i. seconds size (o i) (m i) (j i)) ∙
        filled_cong (zeros size) n (column pair_length (offset + 8) job) (λ i. get_or ys i 0)
        (λ i h. pair-field 8 i (omega arith) h ∙ pair_second (get_or xs i 0) (get_or ys i 0) (fits i h).1),
  )
