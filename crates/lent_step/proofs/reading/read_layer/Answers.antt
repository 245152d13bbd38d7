use mathlib.Core.List.{List}
use mathlib.Core.Path.{◌≡◌, refl, sym, ap, subst, ◌∙◌}
use Rattle.layer.specs.Held.{held_of, excess_at, Stands}
use Rattle.lent.specs.Burdens.{burdens_in}
use Rattle.numbers.specs.Arrays.{zeros, filled}
use Rattle.rules.specs.Record.{soil_of}
use Prim.Native.Nat.{ℕ}
use Rattle.layer.specs.Held.{Held}
use Rattle.lent_step.proofs.reading.read_layer.Goals as goal
use Rattle.lent_step.proofs.reading.read_layer.Lts as lts
use Rattle.lent_step.proofs.reading.read_layer.Reads as reads
use Rattle.lent_step.proofs.reading.read_layer.Tie as tie

pub burdens-requires : goal.burdens-requires
burdens-requires c = record {
  elements_le_most = c.requires.elements_le_most;
  least_le_gravity = c.requires.least_le_gravity;
  by_index = (λ j h. (c.requires.stands.on_soil j h).solids_most);
  burden_len = refl;
}

-- the burdens
module _ (c : lts.After-burdens tie.the-claims reads.Pre reads.Post tie.handed_clauses) where
  abbrev s : lts.Start tie.the-claims reads.Pre reads.Post tie.handed_clauses
  s = c.before.before

  abbrev burden : List ℕ
  burden = c.burdens.new.burden

  burden_is : burden ≡ burdens_in s.args.frame s.args.solids.now
  unfolding zeros
  burden_is = c.burdens.ensures

  abbrev held : List ℕ → Held
  held l =
      let a = s.args in
      held_of (soil_of a.counts a.void.now a.stress.now a.conductivity_void.now a.conductivity.now) a.frame.elements a.load.0 l a.solids.now a.water.now

pub read_elements-requires : goal.read_elements-requires
read_elements-requires c = let b = c.before.before.before.before.before in
    let long = (s b).requires.excess_len in record {
      elements_le_most = (s b).requires.elements_le_most;
      stands = subst (λ (l : List ℕ). Stands (held b l)) (sym (burden_is b)) (s b).requires.stands;
      excess_len = (long.0, long.1, refl, refl);
    }

pub returns : goal.returns
returns c = let b = c.before.before.before.before.before.before in
    let a = (s b).args in record {
      excess_after = c.read_elements.ensures.excess_after ∙ ap (λ (l : List ℕ). filled a.excess.now a.frame.elements (excess_at (held b l))) (burden_is b);
      resistance_after = c.read_elements.ensures.resistance_after;
    }
