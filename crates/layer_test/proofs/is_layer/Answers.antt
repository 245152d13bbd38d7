use mathlib.Core.Path.{refl, sym, ◌∙◌}
use Rattle.rules.specs.Record.{is_layer}
use Rattle.layer_test.proofs.is_layer.Goals as goal

pub returns-then-not-site_sound : goal.returns-then-not-site_sound
unfolding is_layer
returns-then-not-site_sound c = rw (sym c.site_sound.ensures ∙ c.if-not-site_sound.true) refl

pub state_sound-requires : goal.state_sound-requires
state_sound-requires c = sym c.site_sound.ensures ∙ c.if-not-site_sound.false

pub returns : goal.returns
unfolding is_layer
returns c =
    rw (sym c.site_sound.ensures ∙ c.if-not-site_sound.false) c.state_sound.ensures
