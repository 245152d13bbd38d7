use Rattle.numbers.proofs.Signed.{read_back}
use Rattle.record_reading.specs.Comparison.{told_numbers}
use Rattle.record_reading.proofs.told_numbers.Goals as goal

pub returns-in-Difference : goal.returns-in-Difference
unfolding told_numbers
returns-in-Difference c =
    let known = c.in-Difference in
    rw (
      known.is,
      simp (read_back {z = known.exact.0} (record { sfits = c.struct_told-1.given.0.1 })) at c.signed_field.ensures,
      simp (read_back {z = known.pore.0} (record { sfits = c.struct_told-in-Difference-1.given.0.1 })) at c.signed_field-in-Difference.ensures,
      simp (read_back {z = known.difference.0} (record { sfits = c.struct_told-in-Difference-2-1.given.0.1 })) at c.signed_field-in-Difference-2.ensures,
    )

pub returns-in-Missing : goal.returns-in-Missing
unfolding told_numbers
returns-in-Missing c =
    rw (
      c.in-Missing.is,
      simp (read_back {z = c.in-Missing.pore.0} (record { sfits = c.struct_told-in-Missing-1.given.0.1 })) at c.signed_field-in-Missing.ensures,
    )
