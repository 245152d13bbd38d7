use native.Mathlib.Omega.{arith}
use Rattle.words.proofs.WordBytes.{stored_none, stored_more, stored_all}
use Rattle.words.proofs.bytes.put_words.Goals as goal

pub loop-i-init : goal.loop-i-init
loop-i-init c = stored_none c.args.words.now c.args.out.now

pub loop-i-preserved : goal.loop-i-preserved
loop-i-preserved c =
    stored_more c.args.words.now c.args.out.now c.loop-i.i _ _ (omega arith) c.loop-i.invariant c.put_word.ensures

pub returns : goal.returns
returns c =
    let l = c.loop-i in
    stored_all c.args.words.now c.args.out.now l.i l.out l.invariant (omega arith) c.requires
