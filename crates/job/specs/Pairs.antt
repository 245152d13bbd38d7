-- Arrays that hold the pairs of a job's bytes.
use Rattle.std.specs.Prelude.{ℕ, List, ◌≡◌}
use Rattle.numbers.specs.Arrays.{zeros}
use Rattle.rules.specs.Job.{Description}

-- they are those of a description
pub record Pairs (d : Description) (solids water compressibility_void compressibility_stress conductivity_void conductivity table_time
    table_load : List ℕ) : Type 0 where
  pub solids_held : solids ≡ d.solids
  pub water_held : water ≡ d.water
  pub compressibility_stress_held : compressibility_stress ≡ d.compressibility_stress
  pub compressibility_void_held : compressibility_void ≡ d.compressibility_void
  pub conductivity_void_held : conductivity_void ≡ d.conductivity_void
  pub conductivity_held : conductivity ≡ d.conductivity
  pub table_time_held : table_time ≡ d.table_time
  pub table_load_held : table_load ≡ d.table_load

-- none is stored yet
pub record Blank (solids water compressibility_void compressibility_stress conductivity_void conductivity table_time table_load : List ℕ) :
    Type 0 where
  pub solids_blank : solids ≡ zeros 128
  pub water_blank : water ≡ zeros 128
  pub compressibility_stress_blank : compressibility_stress ≡ zeros 64
  pub compressibility_void_blank : compressibility_void ≡ zeros 64
  pub conductivity_void_blank : conductivity_void ≡ zeros 64
  pub conductivity_blank : conductivity ≡ zeros 64
  pub table_time_blank : table_time ≡ zeros 64
  pub table_load_blank : table_load ≡ zeros 64
