-- A steady layer stands still: a step of 1,000 s takes from an element what it brings to it, to a nanometre.
use Prim.Native.Nat.{ℕ, zero, suc}
use native.Mathlib.Omega.{arith}
use borrow.Author.Tests.{eq-eqb}
use lib.Dec.{T, leb→le}
use lib.IntN.{ℤ, pos, negsuc, neg_ℤ, nat_abs, ◌+ℤ◌, ◌-ℤ◌}
use lib.ListN.{length, get_or}
use mathlib.Core.Bool.{true}
use mathlib.Core.List.{List, [], ◌∷◌}
use mathlib.Core.Path.{◌≡◌, refl, ◌∙◌}
use Rattle.claims.proofs.Causes.{step_trials, by_first}
use Rattle.claims.proofs.Events.{call_accepted}
use Rattle.claims.proofs.Opened.{opened, opened_record_lem}
use Rattle.claims.proofs.Replay.{called_standing}
use Rattle.claims.proofs.Stands.{site_sound, stands_after}
use Rattle.claims.specs.StandsStill.{Still, StandsStill}
use Rattle.laws.proofs.Every.{every_all, every_map}
use Rattle.laws.proofs.Lengths.{above_length, elements_length}
use Rattle.laws.specs.Every.{Every}
use Rattle.numbers.proofs.Interval.{intervals}
use Rattle.numbers.proofs.Searches.{passed}
use Rattle.numbers.proofs.Signed.{add_parts, nat_abs_parts, one_sided, sub_parts}
use Rattle.numbers.specs.Interval.{Within}
use Rattle.numbers.specs.Lists.{all, any_two, paired}
use Rattle.numbers.specs.Sums.{sum}
use Rattle.quantities.specs.declared.Face.{Face}
use Rattle.rules.specs.Job.{Description, described, job_site}
use Rattle.rules.specs.Layer.{Site, State, Element, read_elements}
use Rattle.rules.specs.Opening.{opening, start_steady}
use Rattle.rules.specs.Outcome.{outcome, refused}
use Rattle.rules.specs.Run.{step_taken, after_events}
use Rattle.rules.specs.Start.{opening_state}
use Rattle.rules.specs.Steady.{near, steady_flows, steady_seconds, steady}
use Rattle.rules.specs.Step.{flows_above, moved, new_height, outward, step_refusal, stepped, upward_flows}
use Rattle.rules.specs.declared.answers.Answer.TheVariants.{Done}
use Rattle.rules.specs.declared.answers.Call.TheVariants.{Step}

-- ---- one element

unmoved : (n : ℕ) → Within (pos n -ℤ pos n) 1
unmoved n = omega (intervals, sub_parts (pos n) (pos n), one_sided (pos n -ℤ pos n))

-- with flows that are near, its new height is near the old
height-near : (W : ℕ) (below above : ℤ) → T (near below above) → Within (pos (new_height W (pos W -ℤ above +ℤ below)) -ℤ pos W) 1
unfolding near new_height
height-near W below above t = go (pos W -ℤ above +ℤ below) refl
  where
    go : (new : ℤ) → pos W -ℤ above +ℤ below ≡ new → Within (pos (new_height W new) -ℤ pos W) 1
    go (pos W') e =
        let k = leb→le (nat_abs (below -ℤ above)) 1 t in
        omega (
          intervals,
          nat_abs_parts (below -ℤ above),
          sub_parts below above,
          sub_parts (pos W) above,
          add_parts (pos W -ℤ above) below,
          sub_parts (pos W') (pos W),
          one_sided (pos W' -ℤ pos W),
        )
    go (negsuc under) e = unmoved W

-- ---- all elements

-- any two flows are near
abbrev AnyNear : List ℤ → Type 0
AnyNear flows = Every (λ a. Every (λ b. T (near a b)) flows) flows

any-near : (flows : List ℤ) → T (steady_flows flows) → AnyNear flows
unfolding steady_flows any_two
any-near flows t =
    every_map (λ a. T (all (near a) flows)) (λ a. Every (λ b. T (near a b)) flows) (λ a. (every_all (near a) flows).0) flows
    ((every_all (λ a. all (near a) flows) flows).0 t)

-- and so are any two above the lowest
above_near : (below : ℤ) (flows : List ℤ) → AnyNear (below ∷ flows) → AnyNear flows
unfolding Every
above_near below flows near-all =
    every_map (λ a. Every (λ b. T (near a b)) (below ∷ flows)) (λ a. Every (λ b. T (near a b)) flows) (λ a h. h.1) flows near-all.1

moved-near : (below : ℤ) (flows : List ℤ) (water : List ℕ) → length flows ≡ length water → AnyNear (below ∷ flows) →
    Still water (paired new_height water (moved (below ∷ flows) water))
unfolding moved Every
moved-near below [] [] n near-all j = unmoved 0
moved-near below [] (W ∷ water) n near-all j = absurd (omega arith)
moved-near below (above ∷ rest) [] n near-all j = absurd (omega arith)
moved-near below (above ∷ rest) (W ∷ water) n near-all zero = height-near W below above near-all.0.1.0
moved-near below (above ∷ rest) (W ∷ water) n near-all (suc j) =
    moved-near above rest water (omega arith) (above_near below (above ∷ rest) near-all) j

-- ---- a layer

flows_near : (top bottom : Face) (t : ℕ) (es : List Element) (water : List ℕ) → length es ≡ length water →
    T (steady_flows (upward_flows top bottom t es)) → Still water (paired new_height water (moved (upward_flows top bottom t es) water))
unfolding upward_flows moved
flows_near top bottom t [] [] n is = λ j. unmoved 0
flows_near top bottom t [] (W ∷ water) n is = absurd (omega arith)
flows_near top bottom t (e ∷ rest) water n is =
    moved-near (neg_ℤ (outward bottom t e)) (flows_above top t (e ∷ rest)) water (above_length top t (e ∷ rest) ∙ n)
    (any-near (neg_ℤ (outward bottom t e) ∷ flows_above top t (e ∷ rest)) is)

module _ (site : Site) (s : State) (size : length s.water ≡ length site.solids) (is : steady site s ≡ true) where
  step_still : Still s.water (stepped site steady_seconds s).water
  unfolding stepped steady
  step_still = flows_near site.top site.bottom steady_seconds (read_elements site s) s.water (elements_length site s size) (passed is)

  -- whether the step is accepted or not
  pub called-still : Still s.water (after_events site (outcome site s (Step steady_seconds)).events s).water
  unfolding outcome step_refusal refused after_events
  called-still =
      by_first (λ o. Still s.water (after_events site o.events s).water) (step_trials site s steady_seconds)
      (record { answer = Done; events = step_taken steady_seconds ∷ [] }) (λ cause e j. unmoved (get_or s.water j 0)) (λ free. step_still)

-- ---- a layer that opened by start 2

steady_opened : (d : Description) (water : List ℕ) → d.header.start ≡ 2 → start_steady d water ≡ true →
    steady (job_site d) (opening_state (job_site d) water) ≡ true
unfolding start_steady
steady_opened d water two e = rw (eq-eqb d.header.start 2 two) at e

pub stands_still : (job : List ℕ) → StandsStill job
unfolding opening_state
stands_still job done two =
    let site = job_site (described job) in
    let o = opened job done in
    let s = opening_state site o.water in
    let r = (opening job).after in
    let h = opened_record_lem job done in
    let is : steady site s ≡ true = steady_opened (described job) o.water two o.steadied in
    let events = (outcome site s (Step steady_seconds)).events in
    let after = stands_after site (sum o.water) s r h events (call_accepted site (site_sound site (sum o.water) s r h).table s (Step steady_seconds)) in
    rw (called_standing site (sum o.water) s r (Step steady_seconds) h, h.state_is, after.state_is) (called-still site s h.kept.size is)
