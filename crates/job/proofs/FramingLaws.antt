-- The laws of the causes 1 to 4: how tests tell them, and what follows for all causes of a job.
use Prim.Native.Nat.{ℕ, ◌≤◌}
use native.Mathlib.Omega.{arith}
use lib.Dec.{ltb, eqb}
use lib.ListN.{length}
use borrow.Author.Tests.{eqb-true, ltb-false, not-false}
use mathlib.Core.Bool.{Bool, true, false, not, ◌||◌, true≢false}
use mathlib.Core.List.{List, [], ◌∷◌}
use Rattle.std.specs.Prelude.{Option, None, Some}
use mathlib.Core.Path.{◌≡◌, refl, sym, ap, ◌∙◌}
use Rattle.job.proofs.FirstCause.{first_earlier, first_later, none_some}
use Rattle.job.specs.Framing.{framing}
use Rattle.std.specs.Prelude.{Result, Ok, Err}
use Rattle.numbers.specs.Bytes.{field}
use Rattle.rules.specs.Job.{described, header_sound, header_length, framing_causes, described_causes, job_causes, job_length, marked}
use Rattle.rules.specs.Refusals.{◌if◌, first_cause}
use Rattle.rules.specs.declared.answers.Refusal.{Refusal}
use Rattle.rules.specs.declared.job.Header.{Header}
use Rattle.rules.specs.declared.answers.Refusal.TheVariants.{ShortOrUnmarked, OtherVersion, HeaderOutside, WrongLength}

-- where not one of two tests passed, each failed
neither : (a b : Bool) → a || b ≡ false → (a ≡ false) × (b ≡ false)
neither true b e = absurd (true≢false e)
neither false b e = (refl, e)

not_sound : (cause : Refusal) (h : Header) → Err cause ≡ Ok h → ⊥
not_sound cause h e = let z : ◌≡◌ {A = ℕ} 0 1 = cc in omega arith

-- ---- by tests

-- the first of four causes, test by test, or the header
unfoldable pub chosen : (short other outside wrong : Bool) → Header → Result Header Refusal
chosen true other outside wrong h = Err ShortOrUnmarked
chosen false true outside wrong h = Err OtherVersion
chosen false false true wrong h = Err HeaderOutside
chosen false false false true h = Err WrongLength
chosen false false false false h = Ok h

picked : (short other outside wrong : Bool) (h : Header) →
    elim (first_cause ((ShortOrUnmarked if short) ∷ (OtherVersion if other) ∷ (HeaderOutside if outside) ∷ (WrongLength if wrong) ∷ []))
    [ None ↦ Ok h | Some cause ↦ Err cause ] ≡ chosen short other outside wrong h
unfolding first_cause chosen
picked true other outside wrong h = refl
picked false true outside wrong h = refl
picked false false true wrong h = refl
picked false false false true h = refl
picked false false false false h = refl

all_false : (short other outside wrong : Bool) (h found : Header) → chosen short other outside wrong h ≡ Ok found →
    (short ≡ false) × (other ≡ false) × (outside ≡ false) × (wrong ≡ false) × (h ≡ found)
unfolding chosen
all_false false false false false h found e = (refl, refl, refl, refl, cc)
all_false true other outside wrong h found e = absurd (not_sound _ _ e)
all_false false true outside wrong h found e = absurd (not_sound _ _ e)
all_false false false true wrong h found e = absurd (not_sound _ _ e)
all_false false false false true h found e = absurd (not_sound _ _ e)

-- what an answer says of the first cause
sound_none : (first : Option Refusal) (h found : Header) → elim first as (λ _. Result Header Refusal) [ None ↦ Ok h | Some cause ↦ Err cause ] ≡ Ok found → first ≡ None
sound_none None h found e = refl
sound_none (Some cause) h found e = absurd (not_sound cause found e)

refused_some : (first : Option Refusal) (h : Header) (cause : Refusal) →
    elim first as (λ _. Result Header Refusal) [ None ↦ Ok h | Some cause ↦ Err cause ] ≡ Err cause → first ≡ Some cause
refused_some None h cause e = absurd (not_sound cause h (sym e))
refused_some (Some other) h cause e = cc

module _ (job : List ℕ) where
  abbrev pub is_short : Bool
  is_short = ltb (length job) header_length || not (marked job)

  abbrev pub is_other : Bool
  is_other = not (eqb (field 2 3 job) 1)

  abbrev header : Header
  header = (described job).header

  abbrev pub is_outside : Bool
  is_outside = not (header_sound header) || not (eqb (field 2 14 job) 0)

  abbrev pub is_wrong : Bool
  is_wrong = not (eqb (length job) (job_length header))

  pub by_tests : framing job ≡ chosen is_short is_other is_outside is_wrong header
  unfolding framing framing_causes
  by_tests = picked is_short is_other is_outside is_wrong header

  -- without cause 1 the header is there, and without cause 3 it keeps its limits
  pub long : is_short ≡ false → header_length ≤ length job
  long e = ltb-false _ _ (neither _ _ e).0

  pub kept : is_outside ≡ false → header_sound header ≡ true
  kept e = not-false _ (neither (not (header_sound header)) _ e).0

  -- and the mark, the version and the two bytes that are not used are as they must be
  pub mark_there : is_short ≡ false → marked job ≡ true
  mark_there e = not-false _ (neither (ltb (length job) header_length) _ e).1

  pub version_there : is_other ≡ false → field 2 3 job ≡ 1
  version_there e = eqb-true _ _ (not-false _ e)

  pub unused_zero : is_outside ≡ false → field 2 14 job ≡ 0
  unused_zero e = eqb-true _ _ (not-false _ (neither (not (header_sound header)) _ e).1)

  -- where every test fails, none of them holds
  pub all_passed : is_short ≡ false → is_other ≡ false → is_outside ≡ false → is_wrong ≡ false → framing job ≡ Ok header
  unfolding chosen
  all_passed short other outside wrong = by_tests ∙ rw (short, other, outside, wrong)

  -- where none of them holds, the header is the job's, its numbers keep their limits and the length is theirs
  module _ (h : Header) (e : framing job ≡ Ok h) where
    pub tests : (is_short ≡ false) × (is_other ≡ false) × (is_outside ≡ false) × (is_wrong ≡ false) × (header ≡ h)
    tests = all_false _ _ _ _ _ _ (sym by_tests ∙ e)

    pub framed_header : h ≡ (described job).header
    framed_header = sym tests.4

    pub framed_kept : header_sound header ≡ true
    framed_kept = kept tests.2

    pub framed_length : length job ≡ job_length header
    framed_length = eqb-true _ _ (not-false _ tests.3)

    -- the first cause of the job is then one of what it says
    pub framed_rest : first_cause (job_causes job) ≡ first_cause (described_causes (described job))
    unfolding framing job_causes
    framed_rest = first_later (framing_causes job) (described_causes (described job)) (sound_none _ _ h e)

  -- and where one holds, the first of them
  pub unframed_first : (cause : Refusal) → framing job ≡ Err cause → first_cause (job_causes job) ≡ Some cause
  unfolding framing job_causes
  unframed_first cause e = first_earlier (framing_causes job) (described_causes (described job)) cause (refused_some _ _ cause e)

  -- a job without any cause has none of them
  pub none_framed : first_cause (job_causes job) ≡ None → framing job ≡ Ok header
  none_framed e = go (framing job) refl
    where
      go : (f : Result Header Refusal) → framing job ≡ f → framing job ≡ Ok header
      go (Err cause) f = absurd (none_some cause (sym e ∙ unframed_first cause f))
      go (Ok h) f = f ∙ ap Ok (framed_header h f)
