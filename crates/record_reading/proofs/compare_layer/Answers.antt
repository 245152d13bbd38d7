use Prim.Native.Nat.{◌≤◌}
use native.Mathlib.Omega.{arith}
use mathlib.Core.Bool.{true}
use mathlib.Core.Path.{◌≡◌, sym, ◌∙◌}
use Rattle.numbers.proofs.Searches.{passed}
use Rattle.quantities.proofs.Limits.{within_parts}
use Rattle.quantities.specs.Quantities.{from◌to◌, within}
use Rattle.readings.proofs.Ranges.{reading_within}
use Rattle.record_reading.proofs.ComparedLaws.{no_element, taken}
use Rattle.record_reading.proofs.compare_layer.Goals as goal
use Rattle.record_reading.proofs.compare_layer.Lts as lts
use Rattle.record_reading.proofs.compare_layer.Reads as reads
use Rattle.record_reading.proofs.compare_layer.Tie as tie

-- the element's number is not one of the layer's
pub returns-then-not-contains : goal.returns-then-not-contains
returns-then-not-contains c =
    sym (no_element c.args.r c.args.element c.args.reading c.requires (sym c.contains.ensures ∙ c.if-not-contains.true))

-- or it is
module _ (c : lts.Else1 tie.the-claims reads.Pre reads.Post tie.handed_clauses) where
  abbrev s : lts.Start tie.the-claims reads.Pre reads.Post tie.handed_clauses
  s = c.before.before

  inside : within (from 1 to s.args.r.layer.frame.elements) s.args.element ≡ true
  inside = sym c.contains.ensures ∙ c.if-not-contains.false

  between : (1 ≤ s.args.element) × (s.args.element ≤ s.args.r.layer.frame.elements)
  between = within_parts (from 1 to s.args.r.layer.frame.elements) s.args.element (passed inside)

pub overflow_sub-element : goal.overflow_sub-element
overflow_sub-element c = (between c).0

pub element_pore-pore-requires : goal.element_pore-pore-requires
element_pore-pore-requires c = let (least, most) = between c in record {
  r_value = c.requires;
  index_lt_elements = omega arith;
}

pub less-requires : goal.less-requires
less-requires c = record {
  within = c.element_pore-pore.ensures.within;
  within_2 = rw c.convert.ensures (reading_within (s c.before.before).args.reading);
}

pub returns : goal.returns
returns c =
    let p = c.before.before in
    let f = p.before in
    let a = (s f).args in
    c.less.ensures ∙ rw (p.element_pore-pore.ensures.value, c.convert.ensures) (sym (taken a.r a.element a.reading (s f).requires (inside f)))
