use native.Mathlib.Omega.{arith}
use Prim.Native.Nat.{ℕ}
use lib.IntN.{nat_abs}
use lib.Seq.{sets}
use mathlib.Core.List.{List, ◌++◌}
use mathlib.Core.Path.{◌≡◌, refl, ap}
use mir.Syntax.{w64}
use mir.Val.{SFits}
use Rattle.encoding.proofs.Stores.{sets_then}
use Rattle.numbers.specs.Bytes.{bytes}
use Rattle.numbers.specs.Integers.{up}
use Rattle.numbers.proofs.Signed.{cast_fits, cast_value, read_back}
use Rattle.rules.specs.Result.{before_clock, head_bytes, word, signed_word}
use Rattle.rules.specs.declared.answers.Ended.{Ended}
use Rattle.rules.specs.declared.record.Progress.{Progress}
use Rattle.result_head.proofs.write_head.Goals as goal
use Rattle.result_head.proofs.write_head.Lts as lts
use Rattle.result_head.proofs.write_head.Reads as reads
use Rattle.result_head.proofs.write_head.Tie as tie

-- what is known after each field is stored, back to the bytes before the clock, and to the start
abbrev from-clock : lts.After-put_word tie.the-claims reads.Pre reads.Post tie.handed_clauses → lts.After-write_start tie.the-claims reads.Pre reads.Post tie.handed_clauses
from-clock c = c.before.before.before.before

abbrev from-steps : lts.After-put_word2 tie.the-claims reads.Pre reads.Post tie.handed_clauses → lts.After-write_start tie.the-claims reads.Pre reads.Post tie.handed_clauses
from-steps c = from-clock c.before.before.before.before

abbrev from-load : lts.After-put_word3 tie.the-claims reads.Pre reads.Post tie.handed_clauses → lts.After-write_start tie.the-claims reads.Pre reads.Post tie.handed_clauses
from-load c = from-steps c.before.before.before.before.before.before

abbrev from-top : lts.After-put_signed tie.the-claims reads.Pre reads.Post tie.handed_clauses → lts.After-write_start tie.the-claims reads.Pre reads.Post tie.handed_clauses
from-top c = from-load c.before.before.before.before

abbrev from_bottom : lts.After-put_signed2 tie.the-claims reads.Pre reads.Post tie.handed_clauses → lts.After-write_start tie.the-claims reads.Pre reads.Post tie.handed_clauses
from_bottom c = from-top c.before.before.before.before

abbrev from-settlement : lts.After-put_signed3 tie.the-claims reads.Pre reads.Post tie.handed_clauses → lts.After-write_start tie.the-claims reads.Pre reads.Post tie.handed_clauses
from-settlement c = from_bottom c.before.before.before.before

abbrev start : lts.After-write_start tie.the-claims reads.Pre reads.Post tie.handed_clauses → lts.Start tie.the-claims reads.Pre reads.Post tie.handed_clauses
start c = c.before.before.before.before.before.before.before.before

-- the load fits, and is not negative
load_fits : (c : lts.After-struct_told3 tie.the-claims reads.Pre reads.Post tie.handed_clauses) → SFits w64 (start (from-steps c.before.before.before.before.before)).args.ended.progress.load.0
load_fits c = record { sfits = c.struct_told-3-1.given.0.1 }

pub overflow_cast-load : goal.overflow_cast-load
overflow_cast-load c =
    let s = start (from-steps c.before.before.before.before.before) in
    simp (read_back (load_fits c)) (cast_fits s.args.ended.progress.load.0 s.requires.pos_bound (load_fits c))

pub put_signed-requires-3 : goal.put_signed-requires-3
put_signed-requires-3 c = omega (arith, (start (from_bottom c.before.before.before)).requires.in_bounds)

-- the bytes up to each field, and the array that has them
module _ (s : lts.Start tie.the-claims reads.Pre reads.Post tie.handed_clauses) where
  abbrev ended : Ended
  ended = s.args.ended

  abbrev progress : Progress
  progress = ended.progress

  abbrev clocked : List ℕ
  clocked = before_clock ended.stop s.args.elements ++ word progress.clock.0

  abbrev stepped : List ℕ
  stepped = clocked ++ word ended.steps

  abbrev loaded : List ℕ
  loaded = stepped ++ word (up progress.load.0)

  abbrev topped : List ℕ
  topped = loaded ++ signed_word progress.top_outflow.0

  abbrev bottomed : List ℕ
  bottomed = topped ++ signed_word progress.bottom_outflow.0

  abbrev whole : List ℕ
  whole =
      head_bytes ended.stop s.args.elements progress.clock.0 ended.steps (up progress.load.0) progress.top_outflow.0
      progress.bottom_outflow.0 s.args.settlement

  abbrev written : List ℕ → List ℕ
  written = sets s.args.out.now 0

  load_up : nat_abs progress.load.0 ≡ up progress.load.0
  load_up = ap up (cast_value progress.load.0 s.requires.pos_bound)

after-clock : (c : lts.After-put_word tie.the-claims reads.Pre reads.Post tie.handed_clauses) → c.put_word.new.out ≡ written (start (from-clock c)) (clocked (start (from-clock c)))
unfolding bytes
after-clock c =
    let s = start (from-clock c) in
    sets_then s.args.out.now 0 (before_clock (ended s).stop s.args.elements) (word (progress s).clock.0) (from-clock c).write_start.ensures refl
    c.put_word.ensures

after-steps : (c : lts.After-put_word2 tie.the-claims reads.Pre reads.Post tie.handed_clauses) → c.put_word-2.new.out ≡ written (start (from-steps c)) (stepped (start (from-steps c)))
unfolding bytes
after-steps c =
    let s = start (from-steps c) in
    sets_then s.args.out.now 0 (clocked s) (word (ended s).steps) (after-clock c.before.before.before.before) refl
    c.put_word-2.ensures

after-load : (c : lts.After-put_word3 tie.the-claims reads.Pre reads.Post tie.handed_clauses) → c.put_word-3.new.out ≡ written (start (from-load c)) (loaded (start (from-load c)))
unfolding bytes
after-load c =
    let s = start (from-load c) in
    sets_then s.args.out.now 0 (stepped s) (word (up (progress s).load.0)) (after-steps c.before.before.before.before.before.before) refl
    (simp (read_back (load_fits c.before), load_up s) at c.put_word-3.ensures)

after-top : (c : lts.After-put_signed tie.the-claims reads.Pre reads.Post tie.handed_clauses) → c.put_signed.new.out ≡ written (start (from-top c)) (topped (start (from-top c)))
unfolding bytes
after-top c =
    let s = start (from-top c) in
    let fits : SFits w64 (progress s).top_outflow.0 = record { sfits = search (from-top c).before.before.before.struct_told-1.given } in
    sets_then s.args.out.now 0 (loaded s) (signed_word (progress s).top_outflow.0) (after-load c.before.before.before.before) refl
    (simp (read_back fits) at c.put_signed.ensures)

after-bottom : (c : lts.After-put_signed2 tie.the-claims reads.Pre reads.Post tie.handed_clauses) → c.put_signed-2.new.out ≡ written (start (from_bottom c)) (bottomed (start (from_bottom c)))
unfolding bytes
after-bottom c =
    let s = start (from_bottom c) in
    let fits : SFits w64 (progress s).bottom_outflow.0 = record { sfits = search (from_bottom c).before.before.struct_told-2-1.given } in
    sets_then s.args.out.now 0 (topped s) (signed_word (progress s).bottom_outflow.0) (after-top c.before.before.before.before) refl
    (simp (read_back fits) at c.put_signed-2.ensures)

after-settlement : (c : lts.After-put_signed3 tie.the-claims reads.Pre reads.Post tie.handed_clauses) → c.put_signed-3.new.out ≡ written (start (from-settlement c)) (whole (start (from-settlement c)))
unfolding bytes head_bytes
after-settlement c =
    let s = start (from-settlement c) in
    sets_then s.args.out.now 0 (bottomed s) (signed_word s.args.settlement) (after-bottom c.before.before.before.before) refl
    (simp (read_back s.ranges.settlement) at c.put_signed-3.ensures)

pub returns : goal.returns
returns c = after-settlement c.before.before.before
