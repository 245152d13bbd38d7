use mathlib.Core.Path.{refl}
use Rattle.encoding.proofs.Stores.{sets_then}
use Rattle.numbers.specs.Bytes.{bytes}
use Rattle.rules.specs.Result.{word}
use Rattle.writer.specs.Writing.{pair_bytes}
use Rattle.writer.proofs.bytes.put_pair.Goals as goal

pub returns : goal.returns
unfolding pair_bytes bytes
returns c =
    sets_then c.args.out.now c.args.at (word c.args.first) (word c.args.second) c.put_word.ensures refl c.put_word-2.ensures
