use borrow.Author.Rules.{rules}
use borrow.Author.Tests.{eq-eqb, ne_eqb}
use mathlib.Core.Path.{◌≡◌, sym, ◌∙◌}
use Rattle.floats.specs.Binary32.{exponent_field, mantissa}
use Rattle.floats.proofs.mantissa.Goals as goal

pub returns-then-exponent_field-eq0 : goal.returns-then-exponent_field-eq0
unfolding mantissa
returns-then-exponent_field-eq0 c =
    let none : exponent_field c.args.bits ≡ 0 = sym c.exponent_field.ensures ∙ c.if-exponent_field-eq0.true in
    simp (eq-eqb _ _ none)

pub returns-else-exponent_field-eq0 : goal.returns-else-exponent_field-eq0
unfolding mantissa
returns-else-exponent_field-eq0 c =
    let some : exponent_field c.args.bits ≡ 0 → ⊥ = λ e. c.if-exponent_field-eq0.false (c.exponent_field.ensures ∙ e) in
    simp (ne_eqb _ _ some)
