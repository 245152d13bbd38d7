-- What opening a job answers, and what it leaves in the arrays that it is lent.
use Rattle.std.specs.Prelude.{ℕ, List}
use Rattle.acceptance.specs.Accepting.{accepted_burden}
use Rattle.description.specs.Lent.{description_of}
use Rattle.job.specs.Framing.{framing}
use Rattle.opening.specs.declared.Opened.{Opened}
use Rattle.rules.specs.declared.answers.Accepted.{Accepted}
use Rattle.rules.specs.declared.answers.Refusal.{Refusal}
use Rattle.std.specs.Prelude.{Result, Ok, Err}
use Rattle.numbers.specs.Arrays.{zeros}
use Rattle.rules.specs.Job.{Description, described}
use Rattle.rules.specs.Opening.{accepted, accepted_water}
use Rattle.rules.specs.declared.job.Header.{Header}

-- the header with the numbers of its layer, or a refusal
unfoldable pub opened_by : Header → Result Accepted Refusal → Result Opened Refusal
opened_by header (Ok layer) = Ok (record { header = header; frame = layer.frame; progress = layer.progress })
opened_by header (Err cause) = Err cause

-- the causes 1 to 4, then those of what the bytes say
unfoldable pub opened_job : List ℕ → Result Opened Refusal
unfolding framing described accepted opened_by
opened_job job =
    elim (framing job) [ Err cause ↦ Err cause | Ok header ↦ opened_by header (accepted (described job)) ]

-- the arrays: zeros where one of the causes 1 to 4 holds, otherwise what the bytes say, with the water of an accepted start
unfoldable pub left_description : List ℕ → Description
unfolding framing described accepted_water zeros
left_description job =
    let d = described job in
    elim (framing job) [
      | Err cause ↦
          description_of d.header (zeros 64) (zeros 64) (zeros 64) (zeros 64) (zeros 128) (zeros 128) (zeros 64) (zeros 64)
      | Ok header ↦
          description_of d.header d.compressibility_void d.compressibility_stress d.conductivity_void d.conductivity d.solids
          (accepted_water d) d.table_time d.table_load
    ]

-- the burdens
unfoldable pub left_burden : List ℕ → (before : List ℕ) → List ℕ
unfolding framing described accepted_burden
left_burden job before = elim (framing job) [ Err cause ↦ before | Ok header ↦ accepted_burden (described job) before ]
