use mathlib.Core.Bool.{Bool, true, ◌&&◌}
use mathlib.Core.Path.{◌≡◌, refl, sym, ap, ◌∙◌}
use Rattle.laws.proofs.SiteFacts.{site_by}
use Rattle.laws.proofs.Sizes.{SoundSizes, sound_sizes}
use Rattle.laws.proofs.SoundHeader.{SoundHeader, sound_header}
use Rattle.rules.specs.Curve.{compressibility_sound, conductivity_sound}
use Rattle.rules.specs.Layer.{top_pressure, bottom_pressure}
use Rattle.rules.specs.Load.{table_sound}
use Rattle.rules.specs.Record.{form_sound, face_number, sizes_sound, face_holds, record_site, record_state, site_sound}
use Rattle.rules.specs.declared.record.Record.{Record}
use Rattle.site_test.proofs.site_sound.Goals as goal
use Rattle.site_test.proofs.site_sound.Lts as lts
use Rattle.site_test.proofs.site_sound.Reads as reads
use Rattle.site_test.proofs.site_sound.Tie as tie

-- cause 3 of a record's numbers
abbrev headed : Record → Bool
headed r =
    let frame = r.layer.frame in
    form_sound (face_number frame.top) (face_number frame.bottom) frame.elements r.soil.counts.compressibility r.soil.counts.conductivity frame.table_points 0 frame.gravity

-- what each test told
module _ (c : lts.After-numbers_sound tie.the-claims reads.Pre reads.Post tie.handed_clauses) where
  abbrev r : Record
  r = c.args.r

  header_is : c.numbers_sound.result ≡ headed r
  header_is = c.numbers_sound.ensures

pub returns-then-not-numbers_sound : goal.returns-then-not-numbers_sound
returns-then-not-numbers_sound c = sym (site_by (r c.before) (sym (header_is c.before) ∙ c.if-not-numbers_sound.true) refl refl refl refl refl refl)

module _ (c : lts.Else1 tie.the-claims reads.Pre reads.Post tie.handed_clauses) where
  abbrev r₁ : Record
  r₁ = r c.before

  header-true : headed r₁ ≡ true
  header-true = sym (header_is c.before) ∙ c.if-not-numbers_sound.false

  kept : let frame = r₁.layer.frame in
      SoundHeader (face_number frame.top) (face_number frame.bottom) frame.elements r₁.soil.counts.compressibility r₁.soil.counts.conductivity frame.table_points 0 frame.gravity
  kept = sound_header _ _ _ _ _ _ _ _ header-true

pub sizes_sound-requires : goal.sizes_sound-requires
sizes_sound-requires c = (kept c.before.before).elements_kept.most

module _ (c : lts.After-sizes_sound tie.the-claims reads.Pre reads.Post tie.handed_clauses) where
  abbrev e₁ : lts.Else1 tie.the-claims reads.Pre reads.Post tie.handed_clauses
  e₁ = c.before.before.before

  sizes-are : c.sizes_sound.result ≡ sizes_sound (record_site (r₁ e₁)) (record_state (r₁ e₁)).water
  unfolding record_site record_state
  sizes-are = c.sizes_sound.ensures (record_site (r₁ e₁)) refl refl refl refl

pub returns-then-not-sizes_sound : goal.returns-then-not-sizes_sound
returns-then-not-sizes_sound c =
    let f = c.before in
    sym (site_by (r₁ (e₁ f)) (header-true (e₁ f)) (sym (sizes-are f) ∙ c.if-not-sizes_sound.true) refl refl refl refl refl)

module _ (c : lts.Else2 tie.the-claims reads.Pre reads.Post tie.handed_clauses) where
  abbrev e₂ : lts.Else1 tie.the-claims reads.Pre reads.Post tie.handed_clauses
  e₂ = e₁ c.before

  sizes-true : sizes_sound (record_site (r₁ e₂)) (record_state (r₁ e₂)).water ≡ true
  sizes-true = sym (sizes-are c.before) ∙ c.if-not-sizes_sound.false

  sizes : let l = (r₁ e₂).layer in SoundSizes l.frame.elements l.frame.top_level.0 l.frame.bottom_level.0 l.solids l.water
  unfolding record_site record_state
  sizes = let l = (r₁ e₂).layer in sound_sizes (record_site (r₁ e₂)) l.frame.elements l.solids l.water refl sizes-true

pub curves_sound-requires : goal.curves_sound-requires
curves_sound-requires c = let k = kept (e₂ c.before.before.before.before) in record {
  compressibility_le_most = k.compressibility_kept.most;
  least_le_conductivity = (k.conductivity_kept.least, k.conductivity_kept.most);
}

-- both curves of a record
abbrev curved : Record → Bool
curved r = let site = record_site r in compressibility_sound site.compressibility && conductivity_sound site.conductivity site.compressibility

module _ (c : lts.After-curves_sound tie.the-claims reads.Pre reads.Post tie.handed_clauses) where
  abbrev e₃ : lts.Else2 tie.the-claims reads.Pre reads.Post tie.handed_clauses
  e₃ = c.before.before.before.before.before

  abbrev r₃ : Record
  r₃ = r₁ (e₂ e₃)

  curves-are : c.curves_sound.result ≡ curved r₃
  unfolding record_site
  curves-are = c.curves_sound.ensures

  -- the site by its curves, its table and its faces, all before them being sound
  by-curves : {curves table top bottom : Bool} → curved r₃ ≡ curves → table_sound (record_site r₃).load_table ≡ table →
      face_holds r₃.layer.frame.top top_pressure ≡ top →
      face_holds r₃.layer.frame.bottom (bottom_pressure (record_site r₃).top_level (record_site r₃).bottom_level) ≡ bottom →
      site_sound r₃ ≡ (curves && table && top && bottom)
  by-curves {table = table} {top = top} {bottom = bottom} k t p q =
      site_by r₃ (header-true (e₂ e₃)) (sizes-true e₃) refl refl t p q ∙ ap (λ (b : Bool). b && table && top && bottom) k

pub returns-then-not-curves_sound : goal.returns-then-not-curves_sound
returns-then-not-curves_sound c = let f = c.before in sym (by-curves f (sym (curves-are f) ∙ c.if-not-curves_sound.true) refl refl refl)

module _ (c : lts.Else3 tie.the-claims reads.Pre reads.Post tie.handed_clauses) where
  abbrev f₃ : lts.After-curves_sound tie.the-claims reads.Pre reads.Post tie.handed_clauses
  f₃ = c.before

  curves-true : curved (r₃ f₃) ≡ true
  curves-true = sym (curves-are f₃) ∙ c.if-not-curves_sound.false

pub table_sound-requires : goal.table_sound-requires
table_sound-requires c = (kept (e₂ (e₃ (f₃ c.before.before)))).table_kept.most

module _ (c : lts.After-table_sound tie.the-claims reads.Pre reads.Post tie.handed_clauses) where
  abbrev e₄ : lts.Else3 tie.the-claims reads.Pre reads.Post tie.handed_clauses
  e₄ = c.before.before.before

  abbrev r₄ : Record
  r₄ = r₃ (f₃ e₄)

  table_is : c.table_sound.result ≡ table_sound (record_site r₄).load_table
  unfolding record_site
  table_is = c.table_sound.ensures

pub returns-then-not-table_sound : goal.returns-then-not-table_sound
returns-then-not-table_sound c =
    let f = c.before in
    sym (by-curves (f₃ (e₄ f)) (curves-true (e₄ f)) (sym (table_is f) ∙ c.if-not-table_sound.true) refl refl)

pub faces_sound-requires : goal.faces_sound-requires
faces_sound-requires c = let z = sizes (e₃ (f₃ (e₄ c.before))) in (z.top_level_kept, z.bottom_level_kept)

pub returns : goal.returns
unfolding record_site
returns c =
    let f = c.before.before in
    c.faces_sound.ensures ∙ sym (by-curves (f₃ (e₄ f)) (curves-true (e₄ f)) (sym (table_is f) ∙ c.if-not-table_sound.false) refl refl)
