-- What holds after a list of calls on a record that opening left.
use Prim.Native.Nat.{ℕ, ◌+◌}
use native.Mathlib.Omega.{arith}
use lib.IntN.{ℤ, pos, ◌+ℤ◌, ◌-ℤ◌}
use lib.ListN.{length}
use mathlib.Core.List.{List, [], ◌∷◌}
use mathlib.Core.Logic.{◌⊎◌}
use mathlib.Core.Path.{◌≡◌, refl, sym, ap, ap₂, subst, ◌∙◌}
use Rattle.claims.proofs.Accepted.{AllAccepted}
use Rattle.claims.proofs.Answers.{OnLayer, answers_on_layer}
use Rattle.claims.proofs.Courses.{tallied_solids, course-tallied, course-accepted}
use Rattle.claims.proofs.Excesses.{AllExcess, Bounded, first_within, events_bounded}
use Rattle.claims.proofs.Extremes.{every_image, bounding}
use Rattle.claims.proofs.Kept.{SoundSite, Kept}
use Rattle.claims.proofs.Outflows.{events_not_lowered, level_zero}
use Rattle.claims.specs.Pressures.{pressures, lowest, highest, NotNegative, NotLowered}
use Rattle.claims.proofs.Replay.{Follows, follows}
use Rattle.claims.proofs.Stands.{Stands, site_sound}
use Rattle.laws.specs.Amid.{Between}
use Rattle.laws.specs.Every.{Every}
use Rattle.laws.proofs.Every.{every_map}
use Rattle.numbers.specs.Lists.{paired}
use Rattle.numbers.proofs.Signed.{signed, add_parts, sub_parts}
use Rattle.numbers.specs.Sums.{sum}
use Rattle.rules.specs.Calls.{replayed}
use Rattle.rules.specs.Layer.{Site, State, height, read_elements}
use Rattle.rules.specs.Record.{record_site, record_state}
use Rattle.rules.specs.Result.{settlement}
use Rattle.rules.specs.Start.{opening_state}
use Rattle.rules.specs.Tally.{Tally, begun, tallied, Course, course, excesses, water_left, layer_height, step_traces}
use Rattle.rules.specs.declared.answers.Call.{Call}
use Rattle.quantities.specs.declared.Face.TheVariants.{Closed}
use Rattle.rules.specs.declared.record.Record.{Record}

-- the height of a layer is that of its solids and its water
pub height_parts : (Ss Ws : List ℕ) → length Ws ≡ length Ss → sum (paired height Ss Ws) ≡ sum Ss + sum Ws
unfolding sum paired
height_parts [] [] n = refl
height_parts [] (W ∷ Ws) n = absurd (omega arith)
height_parts (S ∷ Ss) [] n = absurd (omega arith)
height_parts (S ∷ Ss) (W ∷ Ws) n = omega (arith, height_parts Ss Ws (omega arith))

layer_height_lem : (site : Site) (start : ℕ) (s : State) → Kept site start s → layer_height site.solids s ≡ sum site.solids + water_left s
unfolding layer_height water_left
layer_height_lem site start s k = height_parts site.solids s.water k.size

-- what is kept settles by the outflows
settled : (solids start water : ℕ) (top bottom : ℤ) → pos start ≡ pos water +ℤ top +ℤ bottom →
    pos (solids + start) -ℤ pos (solids + water) ≡ top +ℤ bottom
settled solids start water top bottom e =
    omega (
      signed,
      sub_parts (pos (solids + start)) (pos (solids + water)),
      add_parts (pos water +ℤ top) bottom,
      add_parts (pos water) top,
      add_parts top bottom,
    )

module _ (site : Site) (water : List ℕ) (opened : Record) (h : Stands site (sum water) (opening_state site water) opened)
    (calls : List Call) where
  abbrev first : Tally
  first = begun site water

  abbrev c : Course
  c = course site calls first

  abbrev last : State
  last = c.tally.state

  abbrev r : Record
  r = (replayed opened calls).after

  sound : SoundSite site
  sound = site_sound site (sum water) (opening_state site water) opened h

  kept : Kept site (sum water) first.state
  unfolding begun
  kept = h.kept

  own : first.solids ≡ site.solids
  unfolding begun
  own = refl

  followed : Follows site (sum water) calls opened first
  unfolding begun
  followed = follows site (sum water) calls opened first own h

  accepted : AllAccepted site first.state c.events
  accepted = course-accepted site sound.table calls first own

  -- ---- the record and the answers are the tally's

  pub same_answers : (replayed opened calls).answers ≡ c.answers
  same_answers = followed.answers

  pub no_refusal_11 : Every OnLayer (replayed opened calls).answers
  no_refusal_11 = rw same_answers (answers_on_layer site calls first)

  pub same_state : record_state r ≡ last
  same_state = followed.stands.state_is

  pub starting_water : r.layer.frame.starting_water ≡ water_left first.state
  unfolding begun water_left
  starting_water = followed.stands.starting_is

  same_site : record_site r ≡ site
  same_site = followed.stands.site_is

  pub job_solids : (record_site r).solids ≡ site.solids
  job_solids = ap (λ (x : Site). x.solids) same_site

  pub same_solids : (record_site r).solids ≡ c.tally.solids
  unfolding begun
  same_solids =
      job_solids ∙ sym (ap (λ (y : Tally). y.solids) (course-tallied site calls first) ∙ tallied_solids site c.events first)

  -- ---- water and height

  pub balanced :
      let s = record_state r in
      pos (water_left first.state) ≡ pos (water_left s) +ℤ s.top_outflow +ℤ s.bottom_outflow
  unfolding begun water_left
  balanced = rw same_state followed.stands.kept.balanced

  first_height : layer_height first.solids first.state ≡ sum site.solids + water_left first.state
  unfolding begun
  first_height = layer_height_lem site (sum water) first.state kept

  last_height : layer_height (record_site r).solids (record_state r) ≡ sum site.solids + water_left (record_state r)
  last_height = rw (job_solids, same_state) (layer_height_lem site (sum water) last followed.stands.kept)

  pub settlement_is :
      settlement r ≡ pos (layer_height first.solids first.state) -ℤ pos (layer_height (record_site r).solids (record_state r))
  unfolding settlement
  settlement_is =
      let same : sum (record_site r).solids + r.layer.frame.starting_water ≡ layer_height first.solids first.state =
      rw (job_solids, starting_water) (sym first_height) in
      ap (λ (n : ℕ). pos n -ℤ pos (layer_height (record_site r).solids (record_state r))) same

  pub settles :
      let s = record_state r in
      settlement r ≡ s.top_outflow +ℤ s.bottom_outflow
  settles =
      let s = record_state r in
      settlement_is ∙ ap₂ (λ (a b : ℕ). pos a -ℤ pos b) first_height last_height ∙
      settled (sum site.solids) (water_left first.state) (water_left s) s.top_outflow s.bottom_outflow balanced

  -- ---- excess pressures

  abbrev ps : List ℤ
  ps = pressures site first.state

  abbrev within_bounds : Tally → ℤ → Type 0
  within_bounds = Bounded (lowest ps) (highest ps)

  bounded_first : AllExcess site (within_bounds first) first.state
  unfolding begun
  bounded_first =
      every_map (λ e. Between (lowest ps) (highest ps) e.excess) (λ e. within_bounds first e.excess)
      (λ e. first_within (lowest ps) (highest ps) 0 0 e.excess) (read_elements site first.state) (bounding site first.state).first

  pub bounded : Every (within_bounds c.tally) (excesses (record_site r) (record_state r))
  unfolding excesses
  bounded =
      let b = bounding site first.state in
      let along =
      events_bounded site sound (sum water) (lowest ps) (highest ps) b.top b.bottom c.events first own accepted kept bounded_first in
      let all = subst (λ (y : Tally). AllExcess site (within_bounds y) y.state) (sym (course-tallied site calls first)) along in
      rw (same_site, same_state) ((every_image (within_bounds c.tally) (λ e. e.excess) (read_elements site last)).1 all)

  -- ---- outflows

  pub not_lowered : c.tally.falls ≡ 0 → Every NotNegative (excesses site first.state) →
      (site.bottom ≡ Closed) ⊎ (site.bottom_level ≡ site.top_level) → Every NotLowered (step_traces site c.events first.state)
  unfolding excesses begun
  not_lowered none p b =
      let never : (tallied site c.events first).falls ≡ 0 = sym (ap (λ (y : Tally). y.falls) (course-tallied site calls first)) ∙ none in
      events_not_lowered site sound (sum water) (level_zero site sound b) c.events first own accepted kept
      ((every_image NotNegative (λ e. e.excess) (read_elements site first.state)).0 p) (omega arith)
