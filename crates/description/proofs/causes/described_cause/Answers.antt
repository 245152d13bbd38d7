use mathlib.Core.Path.{refl, sym, ap, ◌∙◌}
use Rattle.description.proofs.Checking.{chosen, answer_by}
use Rattle.description.proofs.FieldLaws.{fields_tell}
use Rattle.std.specs.Prelude.{Ok}
use Rattle.laws.proofs.SoundHeader.{kept_header}
use Rattle.rules.specs.Job.{job_site}
use Rattle.description.proofs.causes.described_cause.Goals as goal

pub check_fields-requires : goal.check_fields-requires
check_fields-requires c = (kept_header c.args.header c.requires.header_value).elements_kept.most

pub compressibility_sound-requires : goal.compressibility_sound-requires
compressibility_sound-requires c = (kept_header c.args.header c.requires.header_value).compressibility_kept.most

pub conductivity_sound-requires : goal.conductivity_sound-requires
conductivity_sound-requires c = let k = kept_header c.args.header c.requires.header_value in record {
  least_le_count = (k.conductivity_kept.least, k.conductivity_kept.most);
  first_count_le_most = k.compressibility_kept.most;
}

pub table_sound-requires : goal.table_sound-requires
table_sound-requires c = (kept_header c.args.header c.requires.header_value).table_kept.most

pub returns-in_default : goal.returns-in_default
unfolding chosen
returns-in_default c = sym (answer_by _ (fields_tell _ (sym c.in_default.is ∙ c.check_fields.ensures _ _ _ _ _ _)) refl refl refl)

pub returns-then-not-compressibility_sound : goal.returns-then-not-compressibility_sound
unfolding chosen job_site
returns-then-not-compressibility_sound c =
    sym (answer_by _ (fields_tell _ (sym c.in-Some.is ∙ c.check_fields.ensures _ _ _ _ _ _)).0
    (sym c.compressibility_sound.ensures ∙ c.if-not-compressibility_sound.true) refl refl)

pub returns-then-not-conductivity_sound : goal.returns-then-not-conductivity_sound
unfolding chosen job_site
returns-then-not-conductivity_sound c =
    sym (answer_by _ (fields_tell _ (sym c.in-Some.is ∙ c.check_fields.ensures _ _ _ _ _ _)).0
    (sym c.compressibility_sound.ensures ∙ c.if-not-compressibility_sound.false)
    (sym c.conductivity_sound.ensures ∙ c.if-not-conductivity_sound.true) refl)

pub returns-then-not-table_sound : goal.returns-then-not-table_sound
unfolding chosen job_site
returns-then-not-table_sound c =
    sym (answer_by _ (fields_tell _ (sym c.in-Some.is ∙ c.check_fields.ensures _ _ _ _ _ _)).0
    (sym c.compressibility_sound.ensures ∙ c.if-not-compressibility_sound.false)
    (sym c.conductivity_sound.ensures ∙ c.if-not-conductivity_sound.false) (sym c.table_sound.ensures ∙ c.if-not-table_sound.true))

pub returns : goal.returns
unfolding chosen job_site
returns c =
    let told = fields_tell _ (sym c.in-Some.is ∙ c.check_fields.ensures _ _ _ _ _ _) in
    ap Ok told.1 ∙
    sym (answer_by _ told.0 (sym c.compressibility_sound.ensures ∙ c.if-not-compressibility_sound.false)
    (sym c.conductivity_sound.ensures ∙ c.if-not-conductivity_sound.false) (sym c.table_sound.ensures ∙ c.if-not-table_sound.false))
