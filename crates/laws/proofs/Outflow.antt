-- What flows out in a step that is not too long is small.
use Prim.Native.Nat.{ℕ, ◌*◌, ◌≤◌, ◌<◌}
use native.Mathlib.Nat.{mul-le-mul_right}
use native.Mathlib.Omega.{arith}
use lib.Dec.{T}
use lib.IntN.{ℤ, pos, neg_ℤ, nat_abs, ◌-ℤ◌, ◌*ℤ◌}
use mathlib.Core.Bool.{not}
use mathlib.Core.List.{List, [], ◌∷◌}
use Rattle.numbers.specs.Rounding.{cut}
use Rattle.numbers.specs.Interval.{Within}
use Rattle.numbers.proofs.Interval.{within_le, within_pos, within_neg, within-sub}
use Rattle.numbers.specs.Lists.{first_or, last_or}
use Rattle.rules.specs.Layer.{Site, State, Element, read_elements}
use Rattle.quantities.specs.Quantities.{outflow_rate}
use Rattle.rules.specs.Step.{upward, outward, flows_above, upward_flows, site_steepness, outer_contacts, contacts_above, contacts, too_long}
use Rattle.quantities.specs.declared.Face.{Face}
use Rattle.quantities.specs.declared.Face.TheVariants.{Closed, Drained}
use Rattle.laws.specs.Every.{Every}
use Rattle.laws.proofs.Every.{every_append}
use Rattle.laws.proofs.Flow.{flow_size}
use Rattle.laws.proofs.Contacts.{ShortFor, Limiting, step_short_enough, layer_limiting}
use Rattle.laws.specs.Faces.{Holds, HeldWithin}
use Rattle.laws.proofs.Excess.{ExcessWithin}

-- at most half the difference of pressures flows in a step that is short enough
pub half_difference : (d : ℤ) (t R K : ℕ) → 2 ≤ K → K * t ≤ R → nat_abs (cut (d *ℤ pos t) R) * 2 ≤ nat_abs d
half_difference d t R K two short =
    omega (arith, flow_size d t R K short, mul-le-mul_right (nat_abs (cut (d *ℤ pos t) R)) two)

-- a flow of t seconds through an outer face is in range
abbrev pub OuterWithin : (t : ℕ) → ℤ → Type 0
OuterWithin t flow = Within flow (outflow_rate * t)

module _ (K t : ℕ) (h : 1 ≤ t) where
  -- what flows out of an element through an outer face is in range
  pub outward-within : (face : Face) (e : Element) → HeldWithin face → ExcessWithin e → Every (Limiting K) (outer_contacts face e) →
      Every (ShortFor K t) (outer_contacts face e) → OuterWithin t (outward face t e)
  unfolding Holds Every outer_contacts outward
  outward-within Closed e held p limiting short = within_le (within_pos 0) (omega arith)
  outward-within (Drained pressure) e held p limiting short =
      let half = half_difference (e.excess -ℤ pressure.0) t e.resistance (2 * e.sensitivity * K) (omega (arith, limiting.0)) short.0 in
      record { bound = omega (arith, (within-sub p held).bound) }

  -- the last of the flows from an element up is in range
  last_within : (top : Face) (z : ℤ) (e : Element) (rest : List Element) → HeldWithin top → Every ExcessWithin (e ∷ rest) →
      Every (Limiting K) (contacts_above top (e ∷ rest)) → Every (ShortFor K t) (contacts_above top (e ∷ rest)) →
      OuterWithin t (last_or z (flows_above top t (e ∷ rest)))
  unfolding Every contacts_above flows_above last_or
  last_within top z e [] held p limiting short = outward-within top e held p.0 limiting short
  last_within top z e (f ∷ rest) held p limiting short =
      last_within top (upward t e f) f rest held p.1 limiting.1.1 short.1.1

  -- the flows through both outer faces of a layer are in range
  pub outer_within : (top bottom : Face) (es : List Element) → HeldWithin top → HeldWithin bottom → Every ExcessWithin es →
      Every (Limiting K) (contacts top bottom es) → Every (ShortFor K t) (contacts top bottom es) →
      OuterWithin t (first_or (pos 0) (upward_flows top bottom t es)) × OuterWithin t (last_or (pos 0) (upward_flows top bottom t es))
  unfolding Every upward_flows contacts first_or last_or
  outer_within top bottom [] held held' p limiting short =
      let nothing : OuterWithin t (pos 0) = within_le (within_pos 0) (omega arith) in (nothing, nothing)
  outer_within top bottom (e ∷ rest) held held' p limiting short =
      let (limits, above) = (every_append (Limiting K) (outer_contacts bottom e) (contacts_above top (e ∷ rest))).0 limiting in
      let (shorts, further) = (every_append (ShortFor K t) (outer_contacts bottom e) (contacts_above top (e ∷ rest))).0 short in (
        within_neg (outward-within bottom e held' p.0 limits shorts),
        last_within top (neg_ℤ (outward bottom t e)) e rest held p above further,
      )

-- in a step that is not too long the flows through both outer faces are in range
pub outflow_within : (site : Site) (s : State) (t : ℕ) → 1 ≤ t → 0 < site_steepness site → Every (λ S. 0 < S) site.solids →
    HeldWithin site.top → HeldWithin site.bottom → Every ExcessWithin (read_elements site s) → T (not (too_long site s t)) →
    OuterWithin t (first_or (pos 0) (upward_flows site.top site.bottom t (read_elements site s))) ×
    OuterWithin t (last_or (pos 0) (upward_flows site.top site.bottom t (read_elements site s)))
outflow_within site s t h slope solid top bottom p short =
    outer_within (site_steepness site) t h site.top site.bottom (read_elements site s) top bottom p
    (layer_limiting site s slope solid) ((step_short_enough site s t).0 short)
