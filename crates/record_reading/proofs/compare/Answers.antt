use mathlib.Core.Path.{sym, ◌∙◌}
use Rattle.record_reading.proofs.ComparedLaws.{no_layer}
use Rattle.record_reading.proofs.compare.Goals as goal

pub returns-then-not-is_layer : goal.returns-then-not-is_layer
returns-then-not-is_layer c =
    sym (no_layer c.args.r c.args.element c.args.reading (sym c.is_layer.ensures ∙ c.if-not-is_layer.true))

pub compare_layer-requires : goal.compare_layer-requires
compare_layer-requires c = sym c.is_layer.ensures ∙ c.if-not-is_layer.false
