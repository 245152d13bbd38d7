use Rattle.std.proofs.Common.{◌≡◌, ℕ, true, List, sym, ◌∙◌}
use borrow.Author.Tests.{eq-eqb, ne_eqb}
use Rattle.transcript.specs.Input.{is_body, is_record}
use Rattle.scenarios.proofs.answer_list.Goals as goal

job_body : (kind : ℕ) (body : List ℕ) → kind ≡ 0 → is_body kind body ≡ true
unfolding is_body
job_body kind body h = simp (eq-eqb kind 0 h, is_body)

record_body : (kind : ℕ) (body : List ℕ) → (kind ≡ 0 → ⊥) → is_body kind body ≡ is_record body
unfolding is_body
record_body kind body h = simp (ne_eqb kind 0 h, is_body)

pub returns-then-kind-eq0 : goal.returns-then-kind-eq0
returns-then-kind-eq0 g c = sym (job_body _ _ c.if-kind-eq0.true)

pub returns-then-is_record : goal.returns-then-is_record
returns-then-is_record g c = sym (record_body _ _ c.if-kind-eq0.false ∙ sym c.is_record.ensures ∙ c.if-is_record.true)

pub returns : goal.returns
returns g c = sym (record_body _ _ c.if-kind-eq0.false ∙ sym c.is_record.ensures ∙ c.if-is_record.false)
