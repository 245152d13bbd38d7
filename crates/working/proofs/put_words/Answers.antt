use Prim.Native.Nat.{ℕ, ◌+◌, ◌*◌, ◌≤◌}
use native.Mathlib.Omega.{arith}
use Rattle.lent.proofs.Standing.{counted}
use Rattle.working.proofs.LayerWords.{words_length, words_stored}
use Rattle.working.proofs.put_words.Goals as goal
use Rattle.working.proofs.put_words.Lts as lts
use Rattle.working.proofs.put_words.Reads as reads
use Rattle.working.proofs.put_words.Tie as tie

-- the words fit
module _ (p : lts.After-put_layer_faces tie.the-claims reads.Pre reads.Post tie.handed_clauses) where
  abbrev s : lts.Start tie.the-claims reads.Pre reads.Post tie.handed_clauses
  s = p.before.before.before

  abbrev elements : ℕ
  elements = s.args.r.layer.frame.elements

  few : elements ≤ 128
  few = (counted s.args.r s.requires.r_value).1

  room : 2 + 4 * p.put_layer_faces.result + 9 * elements ≤ 1_670
  room = omega (arith, few, p.put_layer_faces.ensures.value.1)

pub put_elements-requires : goal.put_elements-requires
put_elements-requires c = let p = c.before.before.before in record {
  r_value = (s p).requires.r_value;
  elements_in_bounds = omega (arith, room p, (s p).requires.in_bounds, p.put_layer_faces.auto.out);
}

pub overflow_mul-result : goal.overflow_mul-result
overflow_mul-result c = omega (arith, few c.before.before.before.before.before.before.before.before)

pub overflow_add-result : goal.overflow_add-result
overflow_add-result c = omega (arith, room c.before.before.before.before.before.before.before.before)

pub returns : goal.returns
returns c = let p = c.before.before.before.before.before.before.before.before in
    let told = p.put_layer_faces.ensures in
    let count = told.value.0 in record {
      value = omega (arith, count, words_length p.args.r p.args.after p.args.t);
      out_after = words_stored p.args.r p.args.after p.args.t p.args.out.now count told.out_after c.put_elements.ensures
          (omega (arith, count, room p, p.requires.in_bounds));
    }
