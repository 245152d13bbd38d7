-- What is written of an accepted description is read again.
use Prim.Native.Nat.{ℕ, ◌+◌, ◌*◌}
use native.Mathlib.Omega.{arith}
use borrow.Author.Tests.{eq-eqb, le-ltb}
use lib.ListN.{length}
use mathlib.Core.Bool.{true, false}
use mathlib.Core.List.{List, [], ◌++◌, append_assoc, append-nil}
use Rattle.std.specs.Prelude.{None}
use mathlib.Core.Path.{◌≡◌, refl, sym, ap, ◌∙◌}
use Rattle.acceptance.proofs.AcceptingLaws.{accepted_none, header_within, unstarted_accepts}
use Rattle.acceptance.proofs.SoundDescription.{fields, heights_kept, levels_kept}
use Rattle.claims.proofs.StartedParts.{started_parts}
use Rattle.description.proofs.Checking.{none_tests}
use Rattle.job.specs.Framing.{framing}
use Rattle.std.specs.Prelude.{Ok}
use Rattle.job.proofs.FramingLaws.{all_passed, framed_rest, is_short, is_other, is_outside, is_wrong}
use Rattle.numbers.specs.Bytes.{field}
use Rattle.rules.proofs.Sound.{compressible, conductive}
use Rattle.rules.specs.Job.{Description, described, described_causes, header_length, header_sound, job_causes, job_length, job_site, marked, pair_length}
use Rattle.rules.specs.Opening.{Started, started_with, not_started, accepted, layer_causes, opened_record, opening, started}
use Rattle.rules.specs.Refusals.{first_cause}
use Rattle.rules.specs.declared.answers.Accepted.{Accepted}
use Rattle.rules.specs.declared.answers.Answer.TheVariants.{Done}
use Rattle.rules.specs.declared.answers.Answered.{Answered}
use Rattle.rules.specs.declared.job.Header.{Header}
use Rattle.table.proofs.Laws.{tabled}
use Rattle.writer.specs.RoundTrips.{ReadAgain, up_to_counts}
use Rattle.writer.specs.Writing.{header_bytes, job_bytes, pairs_bytes}
use Rattle.writer.proofs.Counted.{causes_kept, started_kept}
use Rattle.writer.proofs.Fields.{header_again, marked_again, pairs_again, unused_again, version_again}
use Rattle.writer.proofs.Stores.{compressibility_length, conductivity_length, elements_length, header_length_lem, job_length_lem, through_compressibility, through_conductivity, through_elements}
use Rattle.writer.proofs.WritingLaws.{accepted_header}

module _ (d : Description) {layer : Accepted} (is : accepted d ≡ Ok layer) where
  abbrev h : Header
  h = d.header

  abbrev job : List ℕ
  job = job_bytes d

  -- ---- each of its numbers fits eight bytes

  sound_header : header_sound h ≡ true
  sound_header = accepted_header d is

  no_cause : first_cause (layer_causes d) ≡ None
  no_cause = accepted_none d is

  sound : first_cause (described_causes d) ≡ None
  sound = sym (header_within d sound_header) ∙ no_cause

  -- ---- its parts

  abbrev element_pairs : List ℕ
  element_pairs = pairs_bytes h.elements d.solids d.water

  abbrev compressibility_pairs : List ℕ
  compressibility_pairs = pairs_bytes h.compressibility_points d.compressibility_stress d.compressibility_void

  abbrev conductivity_pairs : List ℕ
  conductivity_pairs = pairs_bytes h.conductivity_points d.conductivity_void d.conductivity

  abbrev table_pairs : List ℕ
  table_pairs = pairs_bytes h.table_points d.table_time d.table_load

  by_table : job ≡ through_conductivity d ++ table_pairs ++ []
  unfolding job_bytes
  by_table = sym (append-nil (through_conductivity d ++ table_pairs))

  by_conductivity : job ≡ through_compressibility d ++ conductivity_pairs ++ table_pairs
  unfolding job_bytes
  by_conductivity = refl

  by_compressibility : job ≡ through_elements d ++ compressibility_pairs ++ (conductivity_pairs ++ table_pairs)
  by_compressibility = by_conductivity ∙ append_assoc (through_compressibility d) conductivity_pairs table_pairs

  by_elements : job ≡ header_bytes h ++ element_pairs ++ (compressibility_pairs ++ (conductivity_pairs ++ table_pairs))
  by_elements = by_compressibility ∙ append_assoc (through_elements d) compressibility_pairs (conductivity_pairs ++ table_pairs)

  abbrev rest : List ℕ
  rest = element_pairs ++ (compressibility_pairs ++ (conductivity_pairs ++ table_pairs))

  by_header : job ≡ header_bytes h ++ rest
  by_header = by_elements ∙ append_assoc (header_bytes h) element_pairs (compressibility_pairs ++ (conductivity_pairs ++ table_pairs))

  -- ---- what they say

  header_is : (described job).header ≡ h
  header_is =
      let (top, bottom) = levels_kept d sound_header sound in
      let f = fields d sound_header sound in
      ap (λ (l : List ℕ). (described l).header) by_header ∙
      header_again h rest sound_header (omega arith) (omega arith) (omega (arith, f.end_most)) (omega (arith, f.budget_most))

  elements_are : field 1 7 job ≡ h.elements
  unfolding described
  elements_are = ap (λ (k : Header). k.elements) header_is

  compressibility_are : field 1 8 job ≡ h.compressibility_points
  unfolding described
  compressibility_are = ap (λ (k : Header). k.compressibility_points) header_is

  conductivity_are : field 1 9 job ≡ h.conductivity_points
  unfolding described
  conductivity_are = ap (λ (k : Header). k.conductivity_points) header_is

  table_are : field 1 10 job ≡ h.table_points
  unfolding described
  table_are = ap (λ (k : Header). k.table_points) header_is

  -- where its points begin
  compressibility_at : header_length + pair_length * field 1 7 job ≡ header_length + pair_length * h.elements
  compressibility_at = ap (λ (n : ℕ). header_length + pair_length * n) elements_are

  conductivity_at : header_length + pair_length * field 1 7 job + pair_length * field 1 8 job ≡
      header_length + pair_length * h.elements + pair_length * h.compressibility_points
  conductivity_at = λ i. compressibility_at i + pair_length * compressibility_are i

  table_at_lem : header_length + pair_length * field 1 7 job + pair_length * field 1 8 job + pair_length * field 1 9 job ≡
      header_length + pair_length * h.elements + pair_length * h.compressibility_points + pair_length * h.conductivity_points
  table_at_lem = λ i. conductivity_at i + pair_length * conductivity_are i

  pub described_again : described job ≡ up_to_counts d
  unfolding described up_to_counts job_site
  described_again =
      let tests = none_tests d sound in
      let heights = heights_kept d sound_header sound in
      let compressed = compressible h.compressibility_points d.compressibility_void d.compressibility_stress tests.1 in
      let conducted = conductive h.conductivity_points d.conductivity_void d.conductivity _ tests.2 in
      let loads = tabled h.table_points d.table_time d.table_load tests.3 in
      let elements =
      pairs_again (header_bytes h) _ _ _ d.solids d.water (header_length_lem h) 128 by_elements refl elements_are
      (λ i k. (omega (arith, (heights i k).1), omega (arith, (heights i k).2))) in
      let compressibility =
      pairs_again (through_elements d) _ _ _ d.compressibility_stress d.compressibility_void (elements_length d) 64 by_compressibility compressibility_at compressibility_are
      (λ i k. (omega (arith, compressed.stress_high i k), omega (arith, compressed.void_high i k))) in
      let conductivity =
      pairs_again (through_compressibility d) _ _ _ d.conductivity_void d.conductivity (compressibility_length d) 64 by_conductivity conductivity_at conductivity_are
      (λ i k. (omega (arith, conducted.void_high i k), omega (arith, conducted.conductivity_high i k))) in
      let table =
      pairs_again (through_conductivity d) _ _ _ d.table_time d.table_load (conductivity_length d) 64 by_table table_at_lem table_are
      (λ i k. (omega (arith, loads.time_high i k), omega (arith, loads.load_high i k))) in
      λ i. record {
        header = header_is i;
        solids = elements.0 i;
        water = elements.1 i;
        compressibility_stress = compressibility.0 i;
        compressibility_void = compressibility.1 i;
        conductivity_void = conductivity.0 i;
        conductivity = conductivity.1 i;
        table_time = table.0 i;
        table_load = table.1 i;
      }

  -- ---- and none of the causes holds of them

  frames : framing job ≡ Ok (described job).header
  unfolding job_length
  frames = all_passed job short other outside wrong
    where
      short : is_short job ≡ false
      short = rw (le-ltb (length job) header_length (omega (arith, job_length_lem d)), ap marked by_header ∙ marked_again h rest)

      other : is_other job ≡ false
      other = rw (ap (field 2 3) by_header ∙ version_again h rest)

      outside : is_outside job ≡ false
      outside = rw (header_is, sound_header, ap (field 2 14) by_header ∙ unused_again h rest)

      wrong : is_wrong job ≡ false
      wrong = rw (header_is, eq-eqb (length job) (job_length h) (job_length_lem d))

  none_holds : first_cause (job_causes job) ≡ None
  unfolding up_to_counts
  none_holds =
      framed_rest job (described job).header frames ∙ ap (λ (e : Description). first_cause (described_causes e)) described_again ∙
      sym (header_within (up_to_counts d) sound_header) ∙ ap first_cause (causes_kept d) ∙ no_cause

  -- ---- so they are opened with the water of the description's start

  starts : (water : List ℕ) × (started d ≡ started_with water)
  starts = go (started d) refl
    where
      go : (o : Started) → started d ≡ o → (water : List ℕ) × (started d ≡ started_with water)
      go (started_with water) e = (water, e)
      go (not_started cause) e = let no = (unstarted_accepts d no_cause cause e).answers ∙ is in cc

  opens : (water : List ℕ) → started d ≡ started_with water → opening job ≡ record { answer = Done; after = opened_record (described job) water }
  unfolding opening
  opens water e = rw (none_holds, ap started described_again ∙ started_kept d ∙ e, opening)

  pub read_again : ReadAgain d job
  read_again =
      let (water, e) = starts in
      let opened = opens water e in
      record {
        described_again = described_again;
        accepted_again = ap (λ (a : Answered). a.answer) opened;
        water = water;
        started_again = (started_parts d water e).0;
        opened_again = ap (λ (a : Answered). a.after) opened ∙ ap (λ (e : Description). opened_record e water) described_again;
      }
