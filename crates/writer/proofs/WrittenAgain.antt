-- A job that opening accepts is written again from what it says, to the last byte.
use Prim.Native.Nat.{ℕ, ◌+◌, ◌*◌, ◌≤◌, ◌<◌}
use native.Mathlib.Omega.{arith}
use lib.Dec.{eqb, eqb→eq}
use lib.ListN.{length, take, drop, get_or}
use lib.Seq.{drop-drop, take-add, take_all}
use mathlib.Core.Bool.{true, ◌&&◌}
use mathlib.Core.List.{List, [], ◌∷◌, ◌++◌}
use mathlib.Core.Path.{◌≡◌, sym, ap, ◌∙◌}
use Rattle.acceptance.proofs.AcceptingLaws.{header_within, start_accepts}
use Rattle.claims.proofs.Opened.{opened}
use Rattle.claims.proofs.Starts.{steady-started}
use Rattle.job.specs.Framing.{framing}
use Rattle.std.specs.Prelude.{Ok}
use Rattle.job.proofs.FramingLaws.{framed_kept, framed_length, framed_rest, long, mark_there, none_framed, tests, unused_zero, version_there}
use Rattle.numbers.specs.Arrays.{zeros}
use Rattle.numbers.specs.Bytes.{AreBytes, bytes, column, field}
use Rattle.numbers.proofs.Appended.{appended_parts}
use Rattle.numbers.proofs.Filled.{get_or-filled}
use Rattle.numbers.proofs.LittleEndian.{bytes-field}
use Rattle.numbers.proofs.Searches.{both, passed}
use Rattle.rules.specs.Job.{Description, described, firsts, header_length, job_length, marked, pair_length, seconds}
use Rattle.rules.specs.Opening.{accepted, opening}
use Rattle.rules.specs.declared.answers.Accepted.{Accepted}
use Rattle.rules.specs.declared.answers.Answer.TheVariants.{Done}
use Rattle.rules.specs.declared.job.Header.{Header}
use Rattle.writer.specs.Writing.{header_bytes, job_bytes, pair_bytes, pairs_bytes}
use Rattle.writer.proofs.Stores.{pair_at}

-- two parts of a list, one after the other, are one part
joined : {front part : List ℕ} (n m : ℕ) (l : List ℕ) → front ≡ take n l → part ≡ take m (drop n l) → front ++ part ≡ take (n + m) l
joined n m l first second = rw (first, second) (sym (take-add n m l))

-- the mark
mark_taken : (l : List ℕ) → 3 ≤ length l → marked l ≡ true → 76 ∷ 83 ∷ 67 ∷ [] ≡ take 3 l
unfolding marked
mark_taken [] h m = absurd (omega arith)
mark_taken (a ∷ []) h m = absurd (omega arith)
mark_taken (a ∷ b ∷ []) h m = absurd (omega arith)
mark_taken (a ∷ b ∷ c ∷ rest) h m =
    let (two, third) = both (eqb a 76 && eqb b 83) (eqb c 67) (passed m) in
    let (first, second) = both (eqb a 76) (eqb b 83) two in
    rw (eqb→eq a 76 first, eqb→eq b 83 second, eqb→eq c 67 third)

module _ (job : List ℕ) (are : AreBytes job) where
  -- the fields of a pair, where they were read
  first_read : (size offset n i : ℕ) → i < n → get_or (firsts size offset n job) i 0 ≡ field 8 (offset + pair_length * i) job
  unfolding firsts column
  first_read size offset n i h = get_or-filled (zeros size) n (column pair_length offset job) i 0 h

  second_read : (size offset n i : ℕ) → i < n → get_or (seconds size offset n job) i 0 ≡ field 8 (offset + pair_length * i + 8) job
  unfolding seconds
  second_read size offset n i h =
      let at : offset + 8 + pair_length * i ≡ offset + pair_length * i + 8 = omega arith in
      first_read size (offset + 8) n i h ∙ ap (λ (k : ℕ). field 8 k job) at

  -- pairs that were read are written as the bytes that they were read from
  pairs_written : (size offset n : ℕ) → offset + pair_length * n ≤ length job →
      pairs_bytes n (firsts size offset n job) (seconds size offset n job) ≡ take (pair_length * n) (drop offset job)
  unfolding pairs_bytes pair_bytes
  pairs_written size offset n fits = appended_parts pair_length n (pair_at (firsts size offset n job) (seconds size offset n job)) offset job pair
    where
      pair : (i : ℕ) → i < n → pair_at (firsts size offset n job) (seconds size offset n job) i ≡ take pair_length (drop (offset + pair_length * i) job)
      pair i h =
          let at = offset + pair_length * i in
          joined 8 8 (drop at job) (ap (bytes 8) (first_read size offset n i h) ∙ bytes-field 8 at job are (omega arith))
          (ap (bytes 8) (second_read size offset n i h) ∙ bytes-field 8 (at + 8) job are (omega arith) ∙ ap (take 8) (sym (drop-drop 8 at job)))

  -- ---- the whole job

  module _ (done : (opening job).answer ≡ Done) where
    abbrev d : Description
    d = described job

    abbrev h : Header
    h = d.header

    framed : framing job ≡ Ok h
    framed = none_framed job (opened job done).no_cause

    sized : length job ≡ job_length h
    sized = framed_length job h framed

    there : header_length ≤ length job
    there = long job (tests job h framed).0

    header_written : header_bytes h ≡ take header_length job
    unfolding header_bytes described
    header_written =
        let (short, other, outside, wrong, same) = tests job h framed in
        let part : (size offset : ℕ) → offset + size ≤ header_length → bytes size (field size offset job) ≡ take size (drop offset job) =
        λ size offset fits. bytes-field size offset job are (omega (arith, there)) in
        let version : bytes 2 1 ≡ take 2 (drop 3 job) = ap (bytes 2) (sym (version_there job other)) ∙ part 2 3 (omega arith) in
        let unused : bytes 2 0 ≡ take 2 (drop 14 job) = ap (bytes 2) (sym (unused_zero job outside)) ∙ part 2 14 (omega arith) in
        let through3 = mark_taken job (omega (arith, there)) (mark_there job short) in
        let through5 = joined 3 2 job through3 version in
        let through6 = joined 5 1 job through5 (part 1 5 (omega arith)) in
        let through7 = joined 6 1 job through6 (part 1 6 (omega arith)) in
        let through8 = joined 7 1 job through7 (part 1 7 (omega arith)) in
        let through9 = joined 8 1 job through8 (part 1 8 (omega arith)) in
        let through10 = joined 9 1 job through9 (part 1 9 (omega arith)) in
        let through11 = joined 10 1 job through10 (part 1 10 (omega arith)) in
        let through12 = joined 11 1 job through11 (part 1 11 (omega arith)) in
        let through14 = joined 12 2 job through12 (part 2 12 (omega arith)) in
        let through16 = joined 14 2 job through14 unused in
        let through24 = joined 16 8 job through16 (part 8 16 (omega arith)) in
        let through32 = joined 24 8 job through24 (part 8 24 (omega arith)) in
        let through40 = joined 32 8 job through32 (part 8 32 (omega arith)) in
        joined 40 8 job through40 (part 8 40 (omega arith))

    pub written_again : job_bytes d ≡ job
    unfolding job_bytes described job_length
    written_again =
        let n = h.elements in
        let m = h.compressibility_points in
        let k = h.conductivity_points in
        let t = h.table_points in
        let compressibility_at = header_length + pair_length * n in
        let conductivity_at = compressibility_at + pair_length * m in
        let table_at = conductivity_at + pair_length * k in
        let elements = joined header_length (pair_length * n) job header_written (pairs_written 128 header_length n (omega (arith, sized))) in
        let compressibility =
        joined compressibility_at (pair_length * m) job elements (pairs_written 64 compressibility_at m (omega (arith, sized))) in
        let conductivity =
        joined conductivity_at (pair_length * k) job compressibility (pairs_written 64 conductivity_at k (omega (arith, sized))) in
        let table = joined table_at (pair_length * t) job conductivity (pairs_written 64 table_at t (omega (arith, sized))) in
        table ∙ take_all (table_at + pair_length * t) job (omega (arith, sized))

    -- and what it says is accepted
    pub accepted_again : (layer : Accepted) × (accepted d ≡ Ok layer)
    accepted_again =
        let o = opened job done in
        let none-first = header_within d (framed_kept job h framed) ∙ sym (framed_rest job h framed) ∙ o.no_cause in
        (_, sym (start_accepts d none-first o.water (steady-started d o.water o.starts o.steadied)).answers)
