-- What sound fields say of a description: its sizes, its end and budget, and the water of its start.
use Prim.Native.Nat.{◌≤◌}
use lib.Dec.{eqb}
use mathlib.Core.Bool.{true, not, ◌&&◌, ◌||◌}
use mathlib.Core.Path.{◌≡◌}
use Rattle.numbers.specs.Lists.{all}
use Rattle.numbers.proofs.Searches.{passed, both, is_true}
use Rattle.quantities.specs.Quantities.{within, clock_limits, budget_limits}
use Rattle.quantities.proofs.Limits.{within_parts}
use Rattle.rules.specs.Job.{Description, fields_sound, given_water, job_site}
use Rattle.rules.specs.Record.{sizes_sound}

pub record SoundFields (d : Description) : Type 0 where
  pub sizes : sizes_sound (job_site d) (given_water d) ≡ true
  pub end_most : d.header.end ≤ clock_limits.most
  pub budget_most : d.header.budget ≤ budget_limits.most
  pub dry : not (eqb d.header.start 1) || all (λ w. eqb w 0) (given_water d) ≡ true

pub sound_fields : (d : Description) → fields_sound d ≡ true → SoundFields d
unfolding fields_sound
sound_fields d e =
    let sizes = sizes_sound (job_site d) (given_water d) in
    let end = within clock_limits d.header.end in
    let budget = within budget_limits d.header.budget in
    let (first3, given) = both (sizes && end && budget) _ (passed e) in
    let (first2, few) = both (sizes && end) budget first3 in
    let (first, short) = both sizes end first2 in
    record {
      sizes = is_true sizes first;
      end_most = (within_parts clock_limits d.header.end short).1;
      budget_most = (within_parts budget_limits d.header.budget few).1;
      dry = is_true _ given;
    }
