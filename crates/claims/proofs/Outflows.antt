-- Outflows along accepted events without a fall of load: where no excess pressure is negative, none is later, and no step lowers an outflow.
use Prim.Native.Nat.{ℕ, ◌≤◌}
use native.Mathlib.Omega.{arith}
use lib.IntN.{ℤ, pos, neg_ℤ, ◌-ℤ◌, +ℤ_invr}
use lib.Signed.{◌≤ℤ◌}
use mathlib.Core.List.{List, [], ◌∷◌}
use mathlib.Core.Logic.{◌⊎◌, inl, inr}
use mathlib.Core.Path.{◌≡◌, sym, ap, subst, ◌∙◌}
use Rattle.claims.proofs.Accepted.{StepAccepted, Accepted, AllAccepted}
use Rattle.claims.proofs.Courses.{recorded_state}
use Rattle.claims.proofs.Excesses.{AllExcess, loaded}
use Rattle.claims.proofs.Kept.{SoundSite, Kept, holds_map, event_keeps}
use Rattle.laws.proofs.Amid.{at_least}
use Rattle.laws.specs.Every.{Every}
use Rattle.laws.proofs.Flow.{flow_forward}
use Rattle.laws.proofs.Reading.{stress_fall}
use Rattle.laws.specs.Faces.{Holds}
use Rattle.laws.proofs.Spread.{spread}
use Rattle.numbers.specs.Lists.{first_or, last_or}
use Rattle.numbers.proofs.Signed.{signed, add_parts, sub_parts, up_neg, down_neg}
use Rattle.rules.specs.Layer.{Site, State, Element, read_elements, bottom_pressure}
use Rattle.quantities.specs.Quantities.{pressure_of}
use Rattle.claims.specs.Pressures.{NotNegative, NotLowered}
use Rattle.rules.specs.Run.{Event, load_set, step_taken, after_event}
use Rattle.rules.specs.Step.{outward, upward, flows_above, upward_flows, stepped, site_steepness}
use Rattle.rules.specs.Tally.{Tally, recorded, tallied, step_traces}
use Rattle.quantities.specs.declared.Face.{Face}
use Rattle.quantities.specs.declared.Face.TheVariants.{Closed, Drained}

-- a face holds 0
abbrev pub HoldsZero : Face → Type 0
HoldsZero = Holds (λ p. p ≡ pos 0)

-- ---- one step

-- out through a face that holds 0 nothing flows in
out_forward : (face : Face) (t : ℕ) (e : Element) → HoldsZero face → NotNegative e.excess → NotNegative (outward face t e)
unfolding Holds outward
out_forward Closed t e zero p = omega signed
out_forward (Drained held) t e zero p =
    flow_forward (e.excess -ℤ held.0) t e.resistance (omega (signed, zero, sub_parts e.excess held.0))

module _ (top : Face) (t : ℕ) (zero : HoldsZero top) where
  last_forward : (z : ℤ) (e : Element) (rest : List Element) → Every (λ e. NotNegative e.excess) (e ∷ rest) →
      NotNegative (last_or z (flows_above top t (e ∷ rest)))
  unfolding Every flows_above last_or
  last_forward z e [] p = out_forward top t e zero p.0
  last_forward z e (f ∷ rest) p = last_forward (upward t e f) f rest p.1

  -- the first flow does not go up, the last does not go down
  outer_forward : (bottom : Face) (es : List Element) → HoldsZero bottom → Every (λ e. NotNegative e.excess) es →
      (first_or (pos 0) (upward_flows top bottom t es) ≤ℤ pos 0) × NotNegative (last_or (pos 0) (upward_flows top bottom t es))
  unfolding Every upward_flows first_or last_or
  outer_forward bottom [] below p = (omega signed, omega signed)
  outer_forward bottom (e ∷ rest) below p =
      let out = outward bottom t e in
      (omega (signed, out_forward bottom t e below p.0, up_neg out, down_neg out), last_forward (neg_ℤ out) e rest p)

-- ---- accepted events

module _ (site : Site) (sound : SoundSite site) (start : ℕ) (below : HoldsZero site.bottom) where
  holds_none : (face : Face) → HoldsZero face → Holds NotNegative face
  holds_none = holds_map (λ p e. omega (signed, e))

  -- a step from a state with no negative excess pressure lowers no outflow, and leads to another
  step_not_lowered : (t : ℕ) (s : State) → AllExcess site NotNegative s → NotLowered (record { before = s; later = stepped site t s })
  unfolding stepped
  step_not_lowered t s p =
      let flows = upward_flows site.top site.bottom t (read_elements site s) in
      let (enters, leaves) = outer_forward site.top t sound.top_holds site.bottom (read_elements site s) below p in (
        omega (signed, leaves, add_parts s.top_outflow (last_or (pos 0) flows)),
        omega (signed, enters, sub_parts s.bottom_outflow (first_or (pos 0) flows)),
      )

  step_not_negative : (t : ℕ) (s : State) → StepAccepted site s t → Kept site start s → AllExcess site NotNegative s →
      AllExcess site NotNegative (stepped site t s)
  unfolding site_steepness
  step_not_negative t s a k p =
      spread site (at_least (pos 0)) (stress_fall site.compressibility sound.falls) t s sound.solid (holds_none site.top sound.top_holds)
      (holds_none site.bottom below) p k.is_on_curve a.short a.stays

  -- falls only grow
  falls_grow : (es : List Event) (y : Tally) → y.falls ≤ (tallied site es y).falls
  unfolding tallied recorded
  falls_grow [] y = omega arith
  falls_grow (load_set new ∷ rest) y = omega (arith, falls_grow rest (recorded site (load_set new) y))
  falls_grow (step_taken t ∷ rest) y = falls_grow rest (recorded site (step_taken t) y)

  -- along accepted events, if the load never falls, no step lowers an outflow
  pub events_not_lowered : (es : List Event) (y : Tally) → y.solids ≡ site.solids → AllAccepted site y.state es →
      Kept site start y.state → AllExcess site NotNegative y.state → (tallied site es y).falls ≤ y.falls →
      Every NotLowered (step_traces site es y.state)
  unfolding AllAccepted Accepted Every tallied recorded step_traces after_event
  events_not_lowered [] y own a k p h = tt
  events_not_lowered (load_set new ∷ rest) y own a k p h =
      let s = y.state in
      let next = recorded site (load_set new) y in
      let grown = falls_grow rest next in
      let up =
      loaded site NotNegative NotNegative new s
      (λ q n. omega (signed, n, add_parts q (new -ℤ s.load), sub_parts new s.load, sub_parts s.load new)) p in
      events_not_lowered rest next own a.1 (event_keeps site sound start (load_set new) s a.0 k) up (omega arith)
  events_not_lowered (step_taken t ∷ rest) y own a k p h =
      let s = y.state in
      let next = recorded site (step_taken t) y in
      let same = recorded_state site (step_taken t) y own in (
        step_not_lowered t s p,
        subst (λ (s : State). Every NotLowered (step_traces site rest s)) same
            (events_not_lowered rest next own (subst (λ (s : State). AllAccepted site s rest) (sym same) a.1)
            (subst (Kept site start) (sym same) (event_keeps site sound start (step_taken t) s a.0 k))
            (subst (AllExcess site NotNegative) (sym same) (step_not_negative t s a.0 k p)) h),
      )

-- a bottom that is closed, or at the top's level, holds 0 if it holds a pressure
pub level_zero : (site : Site) → SoundSite site → (site.bottom ≡ Closed) ⊎ (site.bottom_level ≡ site.top_level) → HoldsZero site.bottom
unfolding Holds bottom_pressure pressure_of
level_zero site sound (inl e) = subst HoldsZero (sym e) tt
level_zero site sound (inr e) =
    holds_map (λ p q. q ∙ ap (λ (z : ℤ). (bottom_pressure site.top_level z).0) e ∙ rw (+ℤ_invr site.top_level)) site.bottom
    sound.bottom_holds
