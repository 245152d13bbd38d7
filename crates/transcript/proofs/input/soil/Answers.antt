use Rattle.rules.specs.Job.{seconds}
use Rattle.transcript.specs.Input.{soil_in}
use Rattle.transcript.proofs.input.soil.Goals as goal

pub returns : goal.returns
unfolding soil_in seconds
returns c =
    simp (
      c.firsts-compressibility_stress.ensures,
      c.firsts-compressibility_void.ensures,
      c.firsts-conductivity_void.ensures,
      c.firsts-conductivity.ensures,
      c.first_curve_at-first_at.ensures,
      c.second_curve_at-second_at.ensures,
      c.field-first.ensures,
      c.field-second.ensures,
      c.field.ensures,
      c.field-2.ensures,
    )
