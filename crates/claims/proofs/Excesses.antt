-- Excess pressures along accepted events: a load set moves all of them with the load, a step keeps them between their bounds.
use Prim.Native.Nat.{ℕ, ◌+◌}
use lib.IntN.{ℤ, pos, ◌+ℤ◌, ◌-ℤ◌}
use mathlib.Core.List.{List, [], ◌∷◌}
use mathlib.Core.Path.{◌≡◌, sym, subst, ◌∙◌}
use Rattle.claims.proofs.Accepted.{Accepted, AllAccepted}
use Rattle.claims.proofs.Courses.{recorded_state, recorded_solids}
use Rattle.claims.proofs.Kept.{SoundSite, Kept, holds_map, event_keeps}
use Rattle.laws.specs.Amid.{Between}
use Rattle.laws.specs.Every.{Every}
use Rattle.laws.specs.Faces.{Holds}
use Rattle.laws.proofs.Spread.{stays_between}
use Rattle.numbers.proofs.Signed.{signed, one_sided, add_parts, sub_parts}
use Rattle.rules.specs.Curve.{value_of}
use Rattle.rules.specs.Layer.{Site, State, skeleton, effective_stress, excess_pressure, element, elements_from, read_elements, burdens}
use Rattle.rules.specs.Load.{with_load}
use Rattle.rules.specs.Run.{Event, load_set, step_taken}
use Rattle.rules.specs.Tally.{Tally, rise, recorded, tallied}

-- all excess pressures of a state are in a set
abbrev pub AllExcess : Site → (ℤ → Type 0) → State → Type 0
AllExcess site P s = Every (λ e. P e.excess) (read_elements site s)

-- ---- a load set

-- a pressure, load and burden less stress, moves with the load
moves : (old new rest : ℤ) (stress : ℕ) → old +ℤ rest -ℤ pos stress +ℤ (new -ℤ old) ≡ new +ℤ rest -ℤ pos stress
moves old new rest stress =
    omega (
      signed,
      add_parts (old +ℤ rest -ℤ pos stress) (new -ℤ old),
      sub_parts (old +ℤ rest) (pos stress),
      add_parts old rest,
      sub_parts new old,
      sub_parts (new +ℤ rest) (pos stress),
      add_parts new rest,
    )

module _ (site : Site) (P Q : ℤ → Type 0) (old new : ℤ) (move : (p : ℤ) → P p → Q (p +ℤ (new -ℤ old))) where
  loaded_from : (Bs Ss Ws : List ℕ) → Every (λ e. P e.excess) (elements_from site old Bs Ss Ws) →
      Every (λ e. Q e.excess) (elements_from site new Bs Ss Ws)
  unfolding Every elements_from element excess_pressure
  loaded_from [] Ss Ws h = tt
  loaded_from (B ∷ Bs) [] Ws h = tt
  loaded_from (B ∷ Bs) (S ∷ Ss) [] h = tt
  loaded_from (B ∷ Bs) (S ∷ Ss) (W ∷ Ws) h = (
    subst Q (moves old new (pos B) (value_of (effective_stress (skeleton site) S W))) (move _ h.0),
    loaded_from Bs Ss Ws h.1,
  )

-- a load set moves all excess pressures by its change
pub loaded : (site : Site) (P Q : ℤ → Type 0) (new : ℤ) (s : State) → ((p : ℤ) → P p → Q (p +ℤ (new -ℤ s.load))) →
    AllExcess site P s → AllExcess site Q (with_load new s)
unfolding read_elements with_load
loaded site P Q new s move h =
    loaded_from site P Q s.load new move (burdens site.gravity site.solids) site.solids s.water h

-- ---- the bounds of a tally

-- the bounds, less all falls below and plus all rises above
abbrev pub Bounded : (lo hi : ℤ) → Tally → ℤ → Type 0
Bounded lo hi y = Between (lo -ℤ pos y.falls) (hi +ℤ pos y.rises)

-- a pressure within them moves with the load, and they with the rises and falls
widened : (lo hi : ℤ) (falls rises : ℕ) (old new p : ℤ) → Between (lo -ℤ pos falls) (hi +ℤ pos rises) p →
    Between (lo -ℤ pos (falls + rise new old)) (hi +ℤ pos (rises + rise old new)) (p +ℤ (new -ℤ old))
widened lo hi falls rises old new p h =
    let a = add_parts p (new -ℤ old) in
    let b = sub_parts new old in
    let c = sub_parts old new in
    let o = one_sided (new -ℤ old) in
    let o' = one_sided (old -ℤ new) in (
      omega (signed, h.0, sub_parts lo (pos falls), sub_parts lo (pos (falls + rise new old))),
      omega (signed, h.1, add_parts hi (pos rises), add_parts hi (pos (rises + rise old new))),
    )

-- what lies between the bounds at first lies between the widened ones
pub first_within : (lo hi : ℤ) (falls rises : ℕ) (p : ℤ) → Between lo hi p → Between (lo -ℤ pos falls) (hi +ℤ pos rises) p
first_within lo hi falls rises p h =
    (omega (signed, h.0, sub_parts lo (pos falls)), omega (signed, h.1, add_parts hi (pos rises)))

module _ (site : Site) (sound : SoundSite site) (start : ℕ) (lo hi : ℤ) (top : Holds (Between lo hi) site.top)
    (bottom : Holds (Between lo hi) site.bottom) where
  -- an accepted event keeps them
  event_bounded : (e : Event) (y : Tally) → y.solids ≡ site.solids → Accepted site y.state e → Kept site start y.state →
      AllExcess site (Bounded lo hi y) y.state → AllExcess site (Bounded lo hi (recorded site e y)) (recorded site e y).state
  unfolding recorded Accepted
  event_bounded (load_set new) y own a k h =
      loaded site (Bounded lo hi y) _ new y.state (widened lo hi y.falls y.rises y.state.load new) h
  event_bounded (step_taken t) y own a k h =
      subst (AllExcess site (Bounded lo hi y)) (sym (recorded_state site (step_taken t) y own))
      (stays_between site _ _ t y.state sound.falls sound.solid
      (holds_map (first_within lo hi y.falls y.rises) site.top top) (holds_map (first_within lo hi y.falls y.rises) site.bottom bottom)
      h k.is_on_curve a.short a.stays)

  -- along accepted events every excess pressure keeps the bounds of the tally
  pub events_bounded : (es : List Event) (y : Tally) → y.solids ≡ site.solids → AllAccepted site y.state es → Kept site start y.state →
      AllExcess site (Bounded lo hi y) y.state → AllExcess site (Bounded lo hi (tallied site es y)) (tallied site es y).state
  unfolding AllAccepted tallied
  events_bounded [] y own a k h = h
  events_bounded (e ∷ rest) y own a k h =
      let same = sym (recorded_state site e y own) in
      events_bounded rest (recorded site e y) (recorded_solids site e y ∙ own) (subst (λ (s : State). AllAccepted site s rest) same a.1)
      (subst (Kept site start) same (event_keeps site sound start e y.state a.0 k)) (event_bounded e y own a.0 k h)
