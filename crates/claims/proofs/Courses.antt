-- A list of calls is a list of accepted events, and the tally goes by them.
use lib.Dec.{T}
use mathlib.Core.List.{List, [], ◌∷◌, ◌++◌}
use mathlib.Core.Path.{◌≡◌, refl, sym, ap, ◌∙◌}
use Rattle.claims.proofs.Accepted.{AllAccepted}
use Rattle.claims.proofs.Events.{call_accepted}
use Rattle.rules.specs.Layer.{Site, State}
use Rattle.rules.specs.Load.{table_sound}
use Rattle.rules.specs.Outcome.{outcome}
use Rattle.rules.specs.Run.{Event, load_set, step_taken, after_event, after_events}
use Rattle.rules.specs.Tally.{Tally, tally_site, recorded, tallied, course}
use Rattle.rules.specs.declared.answers.Call.{Call}

module _ (site : Site) where
  -- where the tally's solids are the site's, the rules that it works are the site's
  pub tally_own : (y : Tally) → y.solids ≡ site.solids → tally_site site y ≡ site
  unfolding tally_site
  tally_own y own = rw own refl

  -- an event takes the tally's state to the state after it, and leaves its solids
  pub recorded_state : (e : Event) (y : Tally) → y.solids ≡ site.solids → (recorded site e y).state ≡ after_event site e y.state
  unfolding recorded
  recorded_state (load_set load) y own = ap (λ (x : Site). after_event x (load_set load) y.state) (tally_own y own)
  recorded_state (step_taken t) y own = ap (λ (x : Site). after_event x (step_taken t) y.state) (tally_own y own)

  pub recorded_solids : (e : Event) (y : Tally) → (recorded site e y).solids ≡ y.solids
  unfolding recorded
  recorded_solids (load_set load) y = refl
  recorded_solids (step_taken t) y = refl

  pub tallied_state : (es : List Event) (y : Tally) → y.solids ≡ site.solids → (tallied site es y).state ≡ after_events site es y.state
  unfolding tallied after_events
  tallied_state [] y own = refl
  tallied_state (e ∷ rest) y own =
      tallied_state rest (recorded site e y) (recorded_solids e y ∙ own) ∙ ap (after_events site rest) (recorded_state e y own)

  pub tallied_solids : (es : List Event) (y : Tally) → (tallied site es y).solids ≡ y.solids
  unfolding tallied
  tallied_solids [] y = refl
  tallied_solids (e ∷ rest) y = tallied_solids rest (recorded site e y) ∙ recorded_solids e y

  -- events one after the other
  tallied-append : (es more : List Event) (y : Tally) → tallied site (es ++ more) y ≡ tallied site more (tallied site es y)
  unfolding tallied
  tallied-append [] more y = refl
  tallied-append (e ∷ rest) more y = tallied-append rest more (recorded site e y)

  accepted-append : (es more : List Event) (s : State) → AllAccepted site s es → AllAccepted site (after_events site es s) more →
      AllAccepted site s (es ++ more)
  unfolding AllAccepted after_events
  accepted-append [] more s a b = b
  accepted-append (e ∷ rest) more s a b = (a.0, accepted-append rest more (after_event site e s) a.1 b)

  -- the tally of a course is that of its events
  pub course-tallied : (calls : List Call) (y : Tally) → (course site calls y).tally ≡ tallied site (course site calls y).events y
  unfolding course
  course-tallied [] y = refl
  course-tallied (call ∷ rest) y =
      let es = (outcome (tally_site site y) y.state call).events in
      let after = tallied site es y in
      course-tallied rest after ∙ sym (tallied-append es (course site rest after).events y)

  -- which are all accepted
  pub course-accepted : T (table_sound site.load_table) → (calls : List Call) (y : Tally) → y.solids ≡ site.solids →
      AllAccepted site y.state (course site calls y).events
  unfolding course AllAccepted
  course-accepted sound [] y own = tt
  course-accepted sound (call ∷ rest) y own =
      let es = (outcome (tally_site site y) y.state call).events in
      let after = tallied site es y in
      let here : AllAccepted site y.state es = rw (tally_own y own) (call_accepted site sound y.state call) in
      accepted-append es (course site rest after).events y.state here
      (rw (tallied_state es y own) at (course-accepted sound rest after (tallied_solids es y ∙ own)))
