use mathlib.Core.List.{List, ◌++◌}
use mathlib.Core.Path.{refl}
use Prim.Native.Nat.{ℕ}
use Rattle.encoding.proofs.Stores.{sets_then}
use Rattle.numbers.specs.Bytes.{bytes}
use Rattle.rules.specs.Result.{word}
use Rattle.writer.specs.Writing.{before_levels, header_bytes}
use Rattle.writer.proofs.bytes.write_header.Goals as goal

pub returns : goal.returns
unfolding bytes header_bytes
returns c =
    let h = c.args.header in
    let l = c.args.out.now in
    let top : List ℕ = before_levels h ++ word h.top_level in
    let bottom : List ℕ = top ++ word h.bottom_level in
    let ended : List ℕ = bottom ++ word h.end in
    sets_then l 0 ended (word h.budget)
    (sets_then l 0 bottom (word h.end)
    (sets_then l 0 top (word h.bottom_level)
    (sets_then l 0 (before_levels h) (word h.top_level) c.write_start.ensures refl c.put_word.ensures) refl
    c.put_word-2.ensures) refl
    c.put_word-3.ensures) refl
    c.put_word-4.ensures
