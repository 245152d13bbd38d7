use borrow.Author.Rules.{rules}
use Rattle.rules.specs.Record.{form_sound}
use Rattle.record_parts.proofs.form.form_sound.Goals as goal

pub returns : goal.returns
unfolding form_sound
returns c = search rules
