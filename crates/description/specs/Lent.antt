-- A description by its header and its arrays, as functions are lent it.
use Rattle.std.specs.Prelude.{ℕ, List}
use Rattle.rules.specs.Job.{Description}
use Rattle.rules.specs.declared.job.Header.{Header}

abbrev pub description_of : Header → (void stress conductivity_void conductivity solids water table_time table_load : List ℕ) → Description
description_of header void stress conductivity_void conductivity solids water table_time table_load = record {
  header = header;
  solids = solids;
  water = water;
  compressibility_void = void;
  compressibility_stress = stress;
  conductivity_void = conductivity_void;
  conductivity = conductivity;
  table_time = table_time;
  table_load = table_load;
}
