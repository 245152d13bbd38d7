-- A description without the causes 3 and 5 to 8: what it keeps, and what its start makes of it.
use Prim.Native.Nat.{ℕ, ◌≤◌, ◌<◌}
use native.Mathlib.Omega.{arith}
use borrow.Author.Tests.{ne_eqb}
use lib.Dec.{eqb, eqb→eq}
use lib.IntN.{pos}
use lib.ListN.{get_or, length}
use mathlib.Core.Bool.{Bool, true, false, false≢true, not, ◌||◌}
use mathlib.Core.List.{List}
use Rattle.std.specs.Prelude.{Option, None, Some}
use mathlib.Core.Path.{◌≡◌, refl, sym, ap, subst, ◌∙◌}
use Rattle.description.proofs.Checking.{none_tests}
use Rattle.acceptance.specs.Accepting.{water_started}
use Rattle.acceptance.proofs.AcceptingLaws.{Accepts, burdens_in, header_within, unstarted_accepts, start_accepts}
use Rattle.acceptance.specs.Accepting.{progress_at}
use Rattle.acceptance.proofs.Starting.{given_left}
use Rattle.claims.proofs.Described.{Described}
use Rattle.claims.proofs.Opened.{opened_stands}
use Rattle.claims.proofs.Stands.{Stands, stands_layer}
use Rattle.claims.proofs.Starts.{off_started, steady-started, unsteady_started}
use Rattle.laws.specs.Every.{Every}
use Rattle.laws.proofs.Every.{every_at, every_tabulate}
use Rattle.laws.proofs.Excess.{burdens_most}
use Rattle.laws.proofs.Lengths.{burdens-length}
use Rattle.laws.specs.Most.{most_burden, sharp_burden}
use Rattle.laws.proofs.Sizes.{SoundSizes, sound_sizes}
use Rattle.laws.proofs.SoundFields.{SoundFields, sound_fields}
use Rattle.laws.proofs.SoundHeader.{SoundHeader, kept_header}
use Rattle.weights.specs.Weights.{burden_at}
use Rattle.numbers.specs.Arrays.{first_places, overlaid}
use Rattle.numbers.proofs.Filled.{first_length, get_or-filled}
use Rattle.numbers.specs.Lists.{all, first_or}
use Rattle.numbers.proofs.Searches.{passed}
use Rattle.numbers.proofs.Signed.{signed}
use Rattle.numbers.specs.Sums.{sum}
use Rattle.rules.proofs.Points.{from_point}
use Rattle.rules.specs.Curve.{Point, points, compressibility_sound}
use Rattle.rules.specs.Job.{Description, counts_of, described_causes, frame_of, given_water, header_sound, job_site, numbered_face}
use Rattle.rules.specs.Layer.{skeleton_of, bottom_pressure, burdens}
use Rattle.rules.specs.Load.{first_point}
use Rattle.rules.specs.Opening.{description_water, layer_causes, opened_record, start_steady}
use Rattle.quantities.specs.Quantities.{level_limits, solids_limits, stress_limits, water_limits, element_limits}
use Rattle.rules.specs.Refusals.{first_cause}
use Rattle.rules.specs.Record.{is_layer, layer_of, progress_of, record_of, record_site, record_state, soil_of}
use Rattle.rules.specs.Start.{opening_load, opening_state, rests_over, start_water}
use Rattle.rules.specs.Steady.{steady}
use Rattle.std.specs.Prelude.{Ok, Err}
use Rattle.rules.specs.declared.answers.Refusal.TheVariants.{StartNotSteady, StartOffCurve}
use Rattle.rules.specs.declared.record.Frame.{Frame}
use Rattle.rules.specs.declared.record.Progress.{Progress}
use Rattle.rules.specs.declared.record.Record.{Record}
use Rattle.start.proofs.Opened.{burdens_in_lem, given_start}
use Rattle.start.specs.Rest.{all_or_none}
use Rattle.table.proofs.Laws.{tabled}

-- a start that has to be steady and is not is not start 1
steady_given : (start : ℕ) (steadied : Bool) → (not (eqb start 2) || steadied) ≡ false → eqb start 1 ≡ false
steady_given start steadied e = go (eqb start 2) refl e
  where
    go : (two : Bool) → eqb start 2 ≡ two → (not two || steadied) ≡ false → eqb start 1 ≡ false
    go true p e = let two = eqb→eq start 2 (passed p) in ne_eqb start 1 (λ one. omega (arith, one, two))
    go false p e = absurd (false≢true (sym e))

module _ (d : Description) (header : header_sound d.header ≡ true) (sound : first_cause (described_causes d) ≡ None) where
  abbrev n : ℕ
  n = d.header.elements

  pub kept : SoundHeader d.header.top d.header.bottom n d.header.compressibility_points d.header.conductivity_points
      d.header.table_points d.header.start d.header.gravity
  kept = kept_header d.header header

  pub fields : SoundFields d
  fields = sound_fields d (none_tests d sound).0

  -- levels, solids and water
  sized : SoundSizes n (pos d.header.top_level) (pos d.header.bottom_level) d.solids d.water
  unfolding job_site given_water
  sized = sound_sizes (job_site d) n d.solids d.water refl fields.sizes

  pub levels_kept : (d.header.top_level ≤ level_limits.most) × (d.header.bottom_level ≤ level_limits.most)
  levels_kept = let t = sized.top_level_kept.1 in let b = sized.bottom_level_kept.1 in (omega signed, omega signed)

  pub heights_kept : (j : ℕ) → j < n →
      (0 < get_or d.solids j 0) × (get_or d.solids j 0 ≤ solids_limits.most) × (get_or d.water j 0 ≤ water_limits.most)
  heights_kept j h = (omega (arith, sized.solids_least j h), sized.solids_most j h, sized.water_most j h)

  pub dry : not (eqb d.header.start 1) || all (λ w. eqb w 0) (first_places n d.water) ≡ true
  unfolding given_water
  dry = fields.dry

  described : Described d
  described =
      let tests = none_tests d sound in
      record { header = header; fields = tests.0; compressibility = tests.1; conductivity = tests.2; table = tests.3 }

  -- start 1 is for its bottom
  abbrev pub over : Bool
  over =
      let top = pos d.header.top_level in
      let bottom = pos d.header.bottom_level in
      rests_over (numbered_face d.header.bottom (bottom_pressure top bottom)) top bottom

  abbrev pub curve : List Point
  curve = points d.header.compressibility_points d.compressibility_void d.compressibility_stress

  pub curve_sound : compressibility_sound curve ≡ true
  unfolding job_site
  curve_sound = (none_tests d sound).1

  -- the opening load: the first of the table, and a stress
  abbrev load : ℕ
  load = get_or d.table_load 0 0

  pub load_most : load ≤ stress_limits.most
  unfolding job_site
  load_most =
      (tabled d.header.table_points d.table_time d.table_load (none_tests d sound).3).load_high 0 (omega (arith, kept.table_kept.least))

  load_is : load ≡ opening_load (job_site d)
  unfolding opening_load first_point first_or job_site
  load_is = rw (from_point d.header.table_points d.table_time d.table_load 0 (omega (arith, kept.table_kept.least)))

  -- ---- with its burdens in an array

  module _ (before burden : List ℕ) (is : burden ≡ burdens_in d before) where
    burden_at_lem : (j : ℕ) → j < n → get_or burden j 0 ≡ get_or (burdens d.header.gravity (first_places n d.solids)) j 0
    unfolding burden_at
    burden_at_lem j h = rw is (get_or-filled _ _ _ _ _ h)

    pub burden_most : (j : ℕ) → j < n → get_or burden j 0 ≤ most_burden
    unfolding first_places
    burden_most j h =
        let solid : Every (λ S. S ≤ solids_limits.most) (first_places n d.solids) =
        every_tabulate (λ S. S ≤ solids_limits.most) n (λ i. get_or d.solids i 0) (λ i k. sized.solids_most i k) in
        let few : length (first_places n d.solids) ≤ element_limits.most = omega (arith, first_length n d.solids, kept.elements_kept.most) in
        let most = every_at (λ B. B ≤ sharp_burden) (burdens d.header.gravity (first_places n d.solids)) j 0
        (burdens_most d.header.gravity kept.gravity_kept.most _ solid few)
        (omega (arith, burdens-length d.header.gravity (first_places n d.solids), first_length n d.solids)) in
        omega (arith, burden_at_lem j h)

    -- the water of its start, as it is found and as it is left in the array
    module _ {may_rest : Bool} (is_over : may_rest ≡ over) (found : Bool) (after : List ℕ)
        (finds : start_water (skeleton_of curve) (first_places n burden) (first_places n d.solids) may_rest d.header.start (first_places n d.water) load ≡
        all_or_none found (first_places n after))
        (leaves : after ≡
        water_started (start_water (skeleton_of curve) (first_places n burden) (first_places n d.solids) may_rest d.header.start (first_places n d.water) load) d.water) where
      none_first : first_cause (layer_causes d) ≡ None
      none_first = header_within d header ∙ sound

      water_is : start_water (skeleton_of curve) (first_places n burden) (first_places n d.solids) may_rest d.header.start (first_places n d.water) load ≡
          description_water d
      unfolding description_water given_water job_site
      water_is =
          ap (λ (Bs : List ℕ). start_water (skeleton_of curve) Bs (first_places n d.solids) may_rest d.header.start (first_places n d.water) load)
          (sym (burdens_in_lem d.header.gravity n d.solids burden burden_at_lem)) ∙
          λ i.
          start_water (skeleton_of curve) (burdens d.header.gravity (first_places n d.solids)) (first_places n d.solids) (is_over i) d.header.start (first_places n d.water) (load_is i)

      water_found : description_water d ≡ all_or_none found (first_places n after)
      water_found = sym water_is ∙ finds

      water_left : after ≡ water_started (description_water d) d.water
      water_left = leaves ∙ ap (λ (o : Option (List ℕ)). water_started o d.water) water_is

      -- given water is left as it was
      given_kept : n ≤ length d.water → eqb d.header.start 1 ≡ false → after ≡ d.water
      given_kept few e =
          leaves ∙
          ap (λ (o : Option (List ℕ)). water_started o d.water)
          (given_start (skeleton_of curve) (first_places n burden) (first_places n d.solids) may_rest d.header.start (first_places n d.water) load e) ∙
          sym (given_left n d.water few _)

      -- cause 9
      pub off_curve : found ≡ false → Accepts d (Err StartOffCurve) after (burdens_in d)
      unfolding all_or_none water_started
      off_curve e =
          let off : description_water d ≡ None = water_found ∙ ap (λ (b : Bool). all_or_none b (first_places n after)) e in
          rw (water_left, off) (unstarted_accepts d none_first StartOffCurve (off_started d off))

      -- ---- a start that cause 9 does not refuse

      module _ (is_found : found ≡ true) where
        abbrev water : List ℕ
        water = first_places n after

        on : description_water d ≡ Some water
        unfolding all_or_none
        on = water_found ∙ ap (λ (b : Bool). all_or_none b water) is_found

        after_is : after ≡ overlaid water d.water
        unfolding water_started
        after_is = water_left ∙ ap (λ (o : Option (List ℕ)). water_started o d.water) on

        -- the numbers of its layer, with which it is lent
        module _ {frame : Frame} {progress : Progress} (frame_is : frame ≡ frame_of d.header (sum water)) (progress_is : progress ≡ progress_at load) where
          abbrev lent : Record
          lent =
              record_of (soil_of (counts_of d.header) d.compressibility_void d.compressibility_stress d.conductivity_void d.conductivity)
              (layer_of frame progress d.solids after d.table_time d.table_load)

          progress_opened : progress ≡ progress_of (opening_state (job_site d) water)
          unfolding opening_state
          progress_opened = progress_is ∙ ap progress_at load_is

          lent_is : lent ≡ opened_record d water
          unfolding opened_record
          lent_is = λ i.
              record_of (soil_of (counts_of d.header) d.compressibility_void d.compressibility_stress d.conductivity_void d.conductivity)
              (layer_of (frame_is i) (progress_opened i) d.solids (after_is i) d.table_time d.table_load)

          stands : Stands (job_site d) (sum water) (opening_state (job_site d) water) (opened_record d water)
          stands = opened_stands d described water on

          pub lent_layer : is_layer lent ≡ true
          lent_layer = rw lent_is (stands_layer _ _ _ _ stands)

          -- and its burdens are in their array
          pub lent_burdens : (j : ℕ) → j < frame.elements → get_or burden j 0 ≡ burden_at frame.gravity frame.elements d.solids j
          unfolding frame_of
          lent_burdens =
              subst (λ (f : Frame). (j : ℕ) → j < f.elements → get_or burden j 0 ≡ burden_at f.gravity f.elements d.solids j) (sym frame_is)
              (λ j k. rw is (get_or-filled before n (burden_at d.header.gravity n d.solids) j 0 k))

          -- whether it is steady where it has to be
          module _ {steadied : Bool} (tested : steadied ≡ (not (eqb d.header.start 2) || steady (record_site lent) (record_state lent))) where
            steady_is : start_steady d water ≡ steadied
            unfolding start_steady
            steady_is = sym (tested ∙ rw (lent_is, stands.site_is, stands.state_is) refl)

            -- cause 20: then the water was given, and is left so
            pub unsteady : n ≤ length d.water → steadied ≡ false → Accepts d (Err StartNotSteady) after (burdens_in d)
            unsteady few e =
                rw (given_kept few (steady_given d.header.start (steady (record_site lent) (record_state lent)) (sym tested ∙ e)))
                (unstarted_accepts d none_first StartNotSteady (unsteady_started d water on (steady_is ∙ e)))

            -- a layer
            pub accepts : steadied ≡ true → Accepts d (Ok (record { frame = frame; progress = progress })) after (burdens_in d)
            accepts e =
                let a = start_accepts d none_first water (steady-started d water on (steady_is ∙ e)) in
                record {
                  answers = (λ i. Ok (record { frame = frame_is i; progress = progress_opened i })) ∙ a.answers;
                  water_left = water_left ∙ ap (λ (o : Option (List ℕ)). water_started o d.water) on ∙ a.water_left;
                  burden_left = a.burden_left;
                }
