-- The maximum principle along the whole layer: an accepted step keeps every excess pressure in a convex set
-- that held them and what the drained faces hold.
use Prim.Native.Nat.{ℕ, ◌*◌, ◌<◌}
use native.Mathlib.Omega.{arith}
use lib.Dec.{T}
use lib.IntN.{ℤ, pos, neg_ℤ, ◌+ℤ◌, ◌-ℤ◌, +ℤ_assoc}
use mathlib.Core.Bool.{Bool, true, not, ◌&&◌}
use mathlib.Core.List.{List, [], ◌∷◌, map}
use mathlib.Core.Path.{◌∙◌}
use Rattle.numbers.proofs.Searches.{both}
use Rattle.rules.specs.Curve.{falling}
use Rattle.rules.specs.Layer.{Site, State, skeleton, Element, element, elements_from, read_elements, burden, burdens, effective_stress, sensitivity}
use Rattle.numbers.specs.Lists.{paired}
use Rattle.rules.specs.Step.{inner_resistance, upward, outward, flows_above, upward_flows, moved, new_height, stepped, site_steepness}
use Rattle.rules.specs.Step.{Contact, outer_contacts, contacts_above, contacts, too_long, on_curve, all_on_curve, leaves_curve}
use Rattle.quantities.specs.declared.Face.{Face}
use Rattle.quantities.specs.declared.Face.TheVariants.{Closed, Drained}
use Rattle.laws.specs.Every.{Every}
use Rattle.laws.proofs.Every.{every_append}
use Rattle.laws.proofs.Reading.{BoundedFall, stress_fall}
use Rattle.laws.specs.Amid.{Between}
use Rattle.laws.proofs.Amid.{Convex, between_convex}
use Rattle.laws.proofs.Principle.{Bears, bears_entering, bears_leaving, bears_nothing, principle}
use Rattle.laws.proofs.OnCurve.{on_curve_parts, stays_on}
use Rattle.laws.proofs.Contacts.{ShortFor, step_short_enough}
use Rattle.laws.specs.Faces.{Holds}

module _ (site : Site) {P : ℤ → Type 0} (convex : Convex P)
    (fall : (S : ℕ) → 0 < S → BoundedFall (effective_stress (skeleton site) S) (sensitivity S * site_steepness site)) (t : ℕ) where
  -- twice the most by which the stress of an element falls for each nanometre of water
  abbrev K : Element → ℕ
  K e = 2 * (e.sensitivity * site_steepness site)

  -- the step is short enough for a contact
  abbrev Short : Contact → Type 0
  Short = ShortFor (site_steepness site) t

  -- a water height of an element is on the curve
  abbrev on : (S : ℕ) (W : ℤ) → Bool
  on = on_curve (skeleton site)

  -- an element bears what flows through its outer face
  bears_outer : (face : Face) (e : Element) → Holds P face → P e.excess → Every Short (outer_contacts face e) →
      Bears P (K e) e.excess (neg_ℤ (outward face t e))
  unfolding Holds Every outer_contacts outward
  bears_outer Closed e h p short = bears_nothing convex (K e) e.excess p
  bears_outer (Drained held) e h p short = bears_leaving convex (K e) t e.resistance e.excess held.0 (omega (arith, short.0)) p h

  module _ (load : ℤ) (B S w : ℕ) where
    abbrev e : Element
    e = element site load B S w

    -- an element on the curve before and after stays in the set if it bears what crosses each of its faces
    kept_element : (above below : ℤ) → 0 < S → T (on S (pos w)) → T (on S (pos w -ℤ above +ℤ below)) →
        P e.excess → Bears P (K e) e.excess (neg_ℤ above) → Bears P (K e) e.excess below →
        P (element site load B S (new_height w (pos w -ℤ above +ℤ below))).excess
    unfolding element new_height
    kept_element above below solid old new p leaves enters =
        let (same, on') = on_curve_parts (skeleton site) S w (pos w -ℤ above +ℤ below) new in
        principle (fall S solid) w (new_height w (pos w -ℤ above +ℤ below)) (on_curve_parts (skeleton site) S w (pos w) old).1 on'
        convex (load +ℤ pos B) (neg_ℤ above) below (same ∙ +ℤ_assoc (pos w) (neg_ℤ above) below) p leaves enters

    -- so does the highest element
    kept_top : (below : ℤ) → 0 < S → Holds P site.top → P e.excess → Every Short (outer_contacts site.top e) →
        Bears P (K e) e.excess below → T (on S (pos w) && true) →
        T (on S (pos w -ℤ outward site.top t e +ℤ below) && true) →
        P (element site load B S (new_height w (pos w -ℤ outward site.top t e +ℤ below))).excess
    kept_top below solid top p short enters old new =
        let out = outward site.top t e in
        let before = (both (on S (pos w)) true old).0 in
        let after = (both (on S (pos w -ℤ out +ℤ below)) true new).0 in
        kept_element out below solid before after p (bears_outer site.top e top p short) enters

  module _ (load : ℤ) where
    -- the elements, all water on the curve, and the set kept, of a part of the layer
    abbrev layer : (Ss Ws : List ℕ) → List Element
    layer Ss Ws = elements_from site load (burdens site.gravity Ss) Ss Ws

    abbrev all_on : List ℕ → List ℤ → Bool
    all_on = all_on_curve (skeleton site)

    abbrev Kept : List Element → Type 0
    Kept es = Every (λ e. P e.excess) es

    -- the lowest element bears what enters it from below
    unfoldable Enters : ℤ → List Element → Type 0
    Enters below [] = Unit {0}
    Enters below (e ∷ rest) = Bears P (K e) e.excess below

    -- from an element up, if it bears what enters it, all stay in the set
    spread_up : (Ss Ws : List ℕ) (below : ℤ) → Every (λ S. 0 < S) Ss → Holds P site.top → Kept (layer Ss Ws) →
        Every Short (contacts_above site.top (layer Ss Ws)) → Enters below (layer Ss Ws) → T (all_on Ss (map pos Ws)) →
        T (all_on Ss (moved (below ∷ flows_above site.top t (layer Ss Ws)) Ws)) →
        Kept (layer Ss (paired new_height Ws (moved (below ∷ flows_above site.top t (layer Ss Ws)) Ws)))
    unfolding Every Enters elements_from burdens element contacts_above flows_above moved paired all_on_curve upward
    spread_up [] Ws below solid top kept short enters old new = tt
    spread_up (S ∷ Ss) [] below solid top kept short enters old new = tt
    spread_up (S ∷ []) (w ∷ Ws) below solid top kept short enters old new =
        (kept_top load (burden site.gravity S []) S w below solid.0 top kept.0 short enters old new, tt)
    spread_up (S ∷ S' ∷ Ss) (w ∷ []) below solid top kept short enters old new =
        (kept_top load (burden site.gravity S (S' ∷ Ss)) S w below solid.0 top kept.0 short enters old new, tt)
    spread_up (S ∷ S' ∷ Ss) (w ∷ w' ∷ Ws) below solid top kept short enters old new =
        let B = burden site.gravity S (S' ∷ Ss) in
        let e = element site load B S w in
        let f = element site load (burden site.gravity S' Ss) S' w' in
        let u = upward t e f in
        let R = inner_resistance e f in
        let rest = moved (u ∷ flows_above site.top t (layer (S' ∷ Ss) (w' ∷ Ws))) (w' ∷ Ws) in
        let (old-here, old-above) = both (on S (pos w)) (all_on (S' ∷ Ss) (map pos (w' ∷ Ws))) old in
        let (new-here, new-above) = both (on S (pos w -ℤ u +ℤ below)) (all_on (S' ∷ Ss) rest) new in
        let leaves = bears_leaving convex (K e) t R e.excess f.excess (omega (arith, short.0)) kept.0 kept.1.0 in
        let arrives = bears_entering convex (K f) t R f.excess e.excess (omega (arith, short.1.0)) kept.1.0 kept.0 in (
          kept_element load B S w u below solid.0 old-here new-here kept.0 leaves enters,
          spread_up (S' ∷ Ss) (w' ∷ Ws) u solid.1 top kept.1 short.1.1 arrives old-above new-above,
        )

    -- from the bottom up all stay in the set
    spread_whole : (Ss Ws : List ℕ) → Every (λ S. 0 < S) Ss → Holds P site.top → Holds P site.bottom → Kept (layer Ss Ws) →
        Every Short (contacts site.top site.bottom (layer Ss Ws)) → T (all_on Ss (map pos Ws)) →
        T (all_on Ss (moved (upward_flows site.top site.bottom t (layer Ss Ws)) Ws)) →
        Kept (layer Ss (paired new_height Ws (moved (upward_flows site.top site.bottom t (layer Ss Ws)) Ws)))
    unfolding Every Enters elements_from burdens contacts upward_flows moved paired
    spread_whole [] Ws solid top bottom kept short old new = tt
    spread_whole (S ∷ Ss) [] solid top bottom kept short old new = tt
    spread_whole (S ∷ Ss) (w ∷ Ws) solid top bottom kept short old new =
        let e = element site load (burden site.gravity S Ss) S w in
        let (under, over) = (every_append Short (outer_contacts site.bottom e) (contacts_above site.top (layer (S ∷ Ss) (w ∷ Ws)))).0 short in
        spread_up (S ∷ Ss) (w ∷ Ws) (neg_ℤ (outward site.bottom t e)) solid top kept over
        (bears_outer site.bottom e bottom kept.0 under) old new

  -- a step that is not too long and stays on the curve keeps every excess pressure in the set
  pub spread : (s : State) → Every (λ S. 0 < S) site.solids → Holds P site.top → Holds P site.bottom →
      Every (λ e. P e.excess) (read_elements site s) → T (all_on_curve (skeleton site) site.solids (map pos s.water)) →
      T (not (too_long site s t)) → T (not (leaves_curve site s t)) → Every (λ e. P e.excess) (read_elements site (stepped site t s))
  unfolding read_elements stepped all_on_curve leaves_curve
  spread s solid top bottom kept old short stays =
      spread_whole s.load site.solids s.water solid top bottom kept ((step_short_enough site s t).0 short) old (stays_on site s t stays)

-- such a step keeps every excess pressure between bounds on all of them and on what the drained faces hold
pub stays_between : (site : Site) (lo hi : ℤ) (t : ℕ) (s : State) → T (falling site.compressibility) → Every (λ S. 0 < S) site.solids →
    Holds (Between lo hi) site.top → Holds (Between lo hi) site.bottom → Every (λ e. Between lo hi e.excess) (read_elements site s) →
    T (all_on_curve (skeleton site) site.solids (map pos s.water)) → T (not (too_long site s t)) → T (not (leaves_curve site s t)) →
    Every (λ e. Between lo hi e.excess) (read_elements site (stepped site t s))
unfolding site_steepness
stays_between site lo hi t s falls = spread site (between_convex lo hi) (stress_fall site.compressibility falls) t s
