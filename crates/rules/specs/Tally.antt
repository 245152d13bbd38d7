-- The tally: fed the job and each call, and nothing of a record.
use Rattle.std.specs.Prelude.{ℕ, ◌+◌, ℤ, ◌-ℤ◌, List, [], ◌∷◌, ◌++◌, map}
use Rattle.numbers.specs.Integers.{up}
use Rattle.numbers.specs.Lists.{paired}
use Rattle.numbers.specs.Sums.{sum}
use Rattle.rules.specs.Layer.{Site, State, read_elements, height}
use Rattle.rules.specs.Run.{Event, load_set, step_taken, after_event}
use Rattle.rules.specs.Start.{opening_state}
use Rattle.rules.specs.Outcome.{outcome}
use Rattle.rules.specs.declared.answers.Answer.{Answer}
use Rattle.rules.specs.declared.answers.Call.{Call}

-- every S, what calls change, and the sums of all rises and of all falls of load
pub record Tally : Type 0 where
  pub solids : List ℕ
  pub state : State
  pub rises : ℕ
  pub falls : ℕ

-- the tally as it begins
unfoldable pub begun : Site → (water : List ℕ) → Tally
unfolding opening_state
begun site water = record { solids = site.solids; state = opening_state site water; rises = 0; falls = 0 }

-- by how much a load rises to another, 0 where it does not
abbrev pub rise : (load new : ℤ) → ℕ
rise load new = up (new -ℤ load)

-- the site, with the tally's own solids: all rules are worked on these
unfoldable pub tally_site : Site → Tally → Site
tally_site site y = record {
  solids = y.solids;
  compressibility = site.compressibility;
  conductivity = site.conductivity;
  load_table = site.load_table;
  top = site.top;
  bottom = site.bottom;
  gravity = site.gravity;
  top_level = site.top_level;
  bottom_level = site.bottom_level;
}

-- an event on the tally: a load set adds to the rises or to the falls
unfoldable pub recorded : Site → Event → Tally → Tally
unfolding after_event tally_site
recorded site (load_set load) y = record {
  solids = y.solids;
  state = after_event (tally_site site y) (load_set load) y.state;
  rises = y.rises + rise y.state.load load;
  falls = y.falls + rise load y.state.load;
}
recorded site (step_taken t) y = record {
  solids = y.solids;
  state = after_event (tally_site site y) (step_taken t) y.state;
  rises = y.rises;
  falls = y.falls;
}

unfoldable pub tallied : Site → List Event → Tally → Tally
unfolding recorded
tallied site [] y = y
tallied site (e ∷ rest) y = tallied site rest (recorded site e y)

-- a list of calls: every answer, every event, and the tally after it
pub record Course : Type 0 where
  pub answers : List Answer
  pub events : List Event
  pub tally : Tally

unfoldable pub course : Site → List Call → Tally → Course
unfolding outcome tallied tally_site
course site [] y = record { answers = []; events = []; tally = y }
course site (call ∷ rest) y =
    let o = outcome (tally_site site y) y.state call in
    let more = course site rest (tallied site o.events y) in
    record { answers = o.answer ∷ more.answers; events = o.events ++ more.events; tally = more.tally }

-- an accepted step, alone or in a run: the states before and after it
pub record StepTrace : Type 0 where
  pub before : State
  pub later : State

unfoldable pub step_traces : Site → List Event → State → List StepTrace
unfolding after_event
step_traces site [] s = []
step_traces site (load_set load ∷ rest) s = step_traces site rest (after_event site (load_set load) s)
step_traces site (step_taken t ∷ rest) s =
    record { before = s; later = after_event site (step_taken t) s } ∷ step_traces site rest (after_event site (step_taken t) s)

-- the excess pressures of a state; of the first, they are the starting excesses
unfoldable pub excesses : Site → State → List ℤ
unfolding read_elements
excesses site s = map (λ e. e.excess) (read_elements site s)

-- the water of a state, and its height; of the first, they are the starting water and the starting height
unfoldable pub water_left : State → ℕ
unfolding sum
water_left s = sum s.water

unfoldable pub layer_height : (solids : List ℕ) → State → ℕ
unfolding sum paired
layer_height solids s = sum (paired height solids s.water)
