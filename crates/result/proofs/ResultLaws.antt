-- A layer's result as it is stored: head, then elements.
use Prim.Native.Nat.{ℕ, ◌+◌, ◌*◌, ◌≤◌, ◌<◌}
use native.Mathlib.Omega.{arith}
use borrow.Author.Tests.{lt-ltb, le-ltb}
use lib.IntN.{ℤ, pos, ◌-ℤ◌}
use lib.ListN.{length, length-append}
use lib.Seq.{sets}
use mathlib.Core.Bool.{true, false}
use mathlib.Core.List.{List, ◌++◌}
use Rattle.std.specs.Prelude.{Option, None, Some}
use mathlib.Core.Path.{◌≡◌, refl, sym, ap, ◌∙◌}
use Rattle.claims.proofs.After.{height_parts}
use Rattle.encoding.proofs.Stores.{sets_then, sets_front}
use Rattle.laws.proofs.Lengths.{burdens-length}
use Rattle.weights.specs.Weights.{burden_at}
use Rattle.lent.specs.Burdens.{burdens_in}
use Rattle.numbers.specs.Arrays.{zeros, first_places, overlaid}
use Rattle.numbers.proofs.Filled.{tabulated, get_or-filled, first_length}
use Rattle.numbers.specs.Integers.{up}
use Rattle.numbers.proofs.Signed.{signed, sub_parts}
use Rattle.numbers.specs.Sums.{sum}
use Rattle.result_elements.proofs.Elements.{elements_length}
use Rattle.result_head.proofs.HeadLaws.{length-head}
use Rattle.rules.specs.Curve.{points}
use Rattle.rules.specs.Layer.{skeleton_of, burdens}
use Rattle.rules.specs.Record.{record_site, record_state, is_layer}
use Rattle.rules.specs.Refusals.{first_cause}
use Rattle.rules.specs.Result.{head_bytes, elements_bytes, settlement, result_head, result_bytes, result_size, result_refusal, result, Returned, refused_result}
use Rattle.rules.specs.Tally.{layer_height}
use Rattle.rules.specs.declared.answers.Refusal.{Refusal}
use Rattle.rules.specs.declared.answers.Refusal.TheVariants.{NoLayer, ShortBuffer}
use Rattle.rules.specs.declared.answers.Stop.{Stop}
use Rattle.rules.specs.declared.record.Frame.{Frame}
use Rattle.rules.specs.declared.record.Record.{Record}

-- ---- the bytes

-- the burdens in the first places of an array
first_burdens : (frame : Frame) (solids : List ℕ) →
    first_places frame.elements (burdens_in frame solids) ≡ burdens frame.gravity (first_places frame.elements solids)
unfolding first_places burden_at
first_burdens frame solids =
    let n = frame.elements in
    let Ss = first_places n solids in
    sym (tabulated n _ (burdens frame.gravity Ss) 0 (burdens-length frame.gravity Ss ∙ first_length n solids)
    (λ k h. sym (get_or-filled (zeros 128) n (burden_at frame.gravity n solids) k 0 h)))

module _ (r : Record) where
  abbrev n : ℕ
  n = r.layer.frame.elements

  abbrev Ss : List ℕ
  Ss = first_places n r.layer.solids

  abbrev Ws : List ℕ
  Ws = first_places n r.layer.water

  -- the water gone since the opening
  abbrev pub gone : ℤ
  gone = pos r.layer.frame.starting_water -ℤ pos (sum Ws)

  -- a layer settles by the water that left it
  pub settled : settlement r ≡ gone
  unfolding settlement record_site record_state layer_height
  settled =
      let start = r.layer.frame.starting_water in
      rw (height_parts Ss Ws (first_length n r.layer.water ∙ sym (first_length n r.layer.solids)))
      (omega (signed, sub_parts (pos (sum Ss + start)) (pos (sum Ss + sum Ws)), sub_parts (pos start) (pos (sum Ws))))

  -- all elements, under burdens in an array
  abbrev standing : (burden : List ℕ) → List ℕ
  standing burden =
      elements_bytes (skeleton_of (points r.soil.counts.compressibility r.soil.compressibility_void r.soil.compressibility_stress))
      r.layer.frame.top_level.0 r.layer.progress.load.0 0 (first_places n burden) Ss Ws

  standing_length : (burden : List ℕ) → length (standing burden) ≡ 40 * n
  standing_length burden =
      let b = first_length n burden in
      elements_length _ _ _ 0 (first_places n burden) Ss Ws (first_length n r.layer.solids ∙ sym b)
      (first_length n r.layer.water ∙ sym b) ∙ ap (λ (k : ℕ). 40 * k) b

  module _ (stop : Stop) (steps : ℕ) where
    -- the head, with the water gone as the settlement
    abbrev pub headed : List ℕ
    headed =
        head_bytes stop n r.layer.progress.clock.0 steps (up r.layer.progress.load.0) r.layer.progress.top_outflow.0
        r.layer.progress.bottom_outflow.0 gone

    head-length : length headed ≡ 56
    head-length = length-head stop n _ steps _ _ _ gone

    bytes_are : (burden : List ℕ) → burden ≡ burdens_in r.layer.frame r.layer.solids → result_bytes r stop steps ≡ headed ++ standing burden
    unfolding result_bytes result_head record_site record_state
    bytes_are burden e = rw (e, first_burdens r.layer.frame r.layer.solids, settled) refl

    pub result_stored : (burden buffer first last : List ℕ) → burden ≡ burdens_in r.layer.frame r.layer.solids →
        result_size n ≤ length buffer → first ≡ sets buffer 0 headed → last ≡ sets first 56 (standing burden) →
        last ≡ overlaid (result_bytes r stop steps) buffer
    unfolding result_size
    result_stored burden buffer first last e room h k =
        let both : length (headed ++ standing burden) ≤ length buffer =
        omega (arith, length-append headed (standing burden), head-length, standing_length burden) in
        sets_then buffer 0 headed (standing burden) h (rw head-length refl) k ∙ sets_front buffer (headed ++ standing burden) both ∙
        rw (bytes_are burden e) refl

    -- its length goes by the number of elements
    pub result-length : length (result_bytes r stop steps) ≡ result_size n
    unfolding result_size
    result-length =
        let burden = burdens_in r.layer.frame r.layer.solids in
        rw (bytes_are burden refl) (omega (arith, length-append headed (standing burden), head-length, standing_length burden))

-- ---- the refusals

module _ (r : Record) (room : ℕ) (is : is_layer r ≡ true) where
  pub refused_for_room : room < result_size r.layer.frame.elements → result_refusal r room ≡ Some ShortBuffer
  unfolding result_refusal first_cause
  refused_for_room h = rw (is, lt-ltb room (result_size r.layer.frame.elements) h)

  pub not_refused : result_size r.layer.frame.elements ≤ room → result_refusal r room ≡ None
  unfolding result_refusal first_cause
  not_refused h = rw (is, le-ltb room (result_size r.layer.frame.elements) h)

module _ (r : Record) (stop : Stop) (steps : ℕ) (buffer : List ℕ) where
  by_refusal : (cause : Option Refusal) → result_refusal r (length buffer) ≡ cause →
      result r stop steps buffer ≡ elim cause [
        | Some cause ↦ refused_result cause buffer
        | None ↦ record { number = 0; buffer = overlaid (result_bytes r stop steps) buffer }
      ]
  unfolding result
  by_refusal cause e =
      ap (λ (c : Option Refusal). elim c as (λ _. Returned) [
        | Some x ↦ refused_result x buffer
        | None ↦ record { number = 0; buffer = overlaid (result_bytes r stop steps) buffer }
      ]) e

  -- cause 11 comes first
  pub no_layer : is_layer r ≡ false → result r stop steps buffer ≡ refused_result NoLayer buffer
  unfolding result_refusal first_cause
  no_layer e = by_refusal (Some NoLayer) (rw e)

  -- then 10
  pub short_buffer : is_layer r ≡ true → length buffer < result_size r.layer.frame.elements → result r stop steps buffer ≡ refused_result ShortBuffer buffer
  short_buffer is h = by_refusal (Some ShortBuffer) (refused_for_room r (length buffer) is h)

  pub result_written : is_layer r ≡ true → result_size r.layer.frame.elements ≤ length buffer →
      result r stop steps buffer ≡ record { number = 0; buffer = overlaid (result_bytes r stop steps) buffer }
  result_written is h = by_refusal None (not_refused r (length buffer) is h)

-- ---- what is returned and left, by an equation

module _ {a b : Returned} (e : a ≡ b) where
  pub number_is : b.number ≡ a.number
  number_is = ap (λ (x : Returned). x.number) (sym e)

  pub buffer_is : b.buffer ≡ a.buffer
  buffer_is = ap (λ (x : Returned). x.buffer) (sym e)
