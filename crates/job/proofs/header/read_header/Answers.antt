use Rattle.rules.specs.Job.{described}
use Rattle.job.proofs.header.read_header.Goals as goal

pub returns : goal.returns
unfolding described
returns c = λ i. record {
  top = c.byte.ensures i;
  bottom = c.byte-2.ensures i;
  elements = c.byte-3.ensures i;
  compressibility_points = c.byte-4.ensures i;
  conductivity_points = c.byte-5.ensures i;
  table_points = c.byte-6.ensures i;
  start = c.byte-7.ensures i;
  gravity = c.field.ensures i;
  top_level = c.field-2.ensures i;
  bottom_level = c.field-3.ensures i;
  end = c.field-4.ensures i;
  budget = c.field-5.ensures i;
}
