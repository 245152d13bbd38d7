use borrow.Author.Rules.{rules}
use Rattle.rules.specs.Record.{sizes_sound}
use Rattle.record_parts.proofs.sizes.sizes_sound.Goals as goal

pub returns : goal.returns
unfolding sizes_sound
returns c site top bottom face solids = search rules
