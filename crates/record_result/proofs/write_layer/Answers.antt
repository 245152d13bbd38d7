use mathlib.Core.Bool.{true}
use mathlib.Core.Path.{◌≡◌, refl}
use Rattle.lent.proofs.Standing.{counted, weighted, solid}
use Rattle.numbers.specs.Arrays.{zeros}
use Rattle.rules.specs.Record.{is_layer}
use Rattle.rules.specs.declared.record.Record.{Record}
use borrow.Author.Rules.{rules}
use Rattle.record_result.proofs.write_layer.Goals as goal
use Rattle.record_result.proofs.write_layer.Lts as lts
use Rattle.record_result.proofs.write_layer.Reads as reads
use Rattle.record_result.proofs.write_layer.Tie as tie

module _ (s : lts.Start tie.the-claims reads.Pre reads.Post tie.handed_clauses) where
  abbrev r : Record
  r = s.args.r

  abbrev is : is_layer r ≡ true
  is = s.requires.r_value

pub burdens-requires : goal.burdens-requires
burdens-requires c = let s = c.before.before.before.before.before.before in record {
  elements_le_most = (counted (r s) (is s)).1;
  least_le_gravity = weighted (r s) (is s);
  by_index = (λ j h. (solid (r s) (is s) j h).1);
  burden_len = refl;
}

pub write_lent-requires : goal.write_lent-requires
unfolding zeros
write_lent-requires c = let s = c.before.before.before.before.before.before.before.before.before.before.before.before.before.before.before.before.before.before in record {
  r_value = is s;
  burden_value = (c.burdens.ensures, s.requires.elements_in_bounds);
}
