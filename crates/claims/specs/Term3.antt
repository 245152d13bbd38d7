-- Term 3: what holds after every list of calls, each given the record as the one before left it, on every job that opening accepts.
use Rattle.std.specs.Prelude.{ℕ, pos, ◌+ℤ◌, ◌-ℤ◌, List, ◌≡◌}
use Rattle.std.specs.Prelude.{Some}
use Rattle.claims.specs.Pressures.{least_excess, greatest_excess, NeverFell, NotNegative, NoHeadBelow, NotLowered}
use Rattle.laws.specs.Amid.{Between}
use Rattle.laws.specs.Every.{Every}
use Rattle.rules.specs.Calls.{replayed}
use Rattle.rules.specs.Job.{described, job_site}
use Rattle.rules.specs.Layer.{Site}
use Rattle.rules.specs.Opening.{opening, description_water}
use Rattle.rules.specs.Record.{record_site, record_state}
use Rattle.rules.specs.Result.{settlement}
use Rattle.rules.specs.Tally.{Tally, begun, tally_site, Course, course, excesses, water_left, layer_height, step_traces}
use Rattle.rules.specs.declared.answers.Answer.{Answer}
use Rattle.rules.specs.declared.answers.Answer.TheVariants.{Done, Refused}
use Rattle.rules.specs.declared.answers.Call.{Call}
use Rattle.rules.specs.declared.answers.Refusal.TheVariants.{NoLayer}
use Rattle.rules.specs.declared.record.Record.{Record}

-- The site of a job, the tally as it begins, its course through the calls; every answer of the calls on the record, and the record after them.
pub record Term3 (site : Site) (first : Tally) (c : Course) (answers : List Answer) (r : Record) : Type 0 where
  -- The record's solids, water, load, clock, outflows and starting water are the tally's, and so is every answer; cause 11 never arises.
  pub solids_as_tallied : (record_site r).solids ≡ c.tally.solids
  pub state_as_tallied : record_state r ≡ c.tally.state
  pub starting_water_as_tallied : r.layer.frame.starting_water ≡ water_left first.state
  pub answers_as_tallied : answers ≡ c.answers
  pub cause_11_never_arises : Every (λ answer. answer ≡ Refused NoLayer → ⊥) answers
  -- The starting water is the water left and both outflows; the layer has settled by both outflows; the solids are the job's.
  pub water_balances :
      let s = record_state r in
      pos (water_left first.state) ≡ pos (water_left s) +ℤ s.top_outflow +ℤ s.bottom_outflow
  pub settlement_of_heights :
      settlement r ≡ pos (layer_height first.solids first.state) -ℤ pos (layer_height (record_site r).solids (record_state r))
  pub settlement_by_outflows :
      let s = record_state r in
      settlement r ≡ s.top_outflow +ℤ s.bottom_outflow
  pub solids_of_the_job : (record_site r).solids ≡ site.solids
  -- Every excess lies between the least and the greatest of the starting excesses and the drained faces' values, less all falls of
  -- load below and plus all rises above.
  pub excesses_stay_between :
      let own = tally_site site first in
      Every (Between (least_excess own first c.tally) (greatest_excess own first c.tally)) (excesses (record_site r) (record_state r))
  -- If the load never fell, no starting excess was negative, and the bottom is closed or at the top's level, no step, a run's own
  -- included, lowered either outflow.
  pub no_step_lowers_an_outflow :
      let own = tally_site site first in
      NeverFell c.tally → Every NotNegative (excesses own first.state) → NoHeadBelow site →
      Every NotLowered (step_traces own c.events first.state)

-- Every job that opening accepts has the water of its start, and with it the tally of which term 3 speaks.
abbrev pub Term3Holds : (job : List ℕ) (calls : List Call) → Type 0
Term3Holds job calls =
    (opening job).answer ≡ Done →
    let site = job_site (described job) in
    let replay = replayed (opening job).after calls in
    (water : List ℕ) × (description_water (described job) ≡ Some water) ×
    Term3 site (begun site water) (course site calls (begun site water)) replay.answers replay.after
