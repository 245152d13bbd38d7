-- A layer as lent arrays hold it under a load, what a step reads of it, and what reading it needs.
use Rattle.std.specs.Prelude.{ℕ, ◌<◌, ℤ, get_or, List}
use Rattle.layer.specs.Soil.{SoilSound, OnSoil}
use Rattle.rules.specs.Layer.{skeleton_of, excess_pressure, resistance}
use Rattle.rules.specs.Record.{compressibility_points, conductivity_points}
use Rattle.rules.specs.declared.record.Soil.{Soil}

pub record Held : Type 0 where
  pub soil : Soil
  pub elements : ℕ
  pub load : ℤ
  pub burden : List ℕ
  pub solids : List ℕ
  pub water : List ℕ

abbrev pub held_of : Soil → (elements : ℕ) (load : ℤ) (burden solids water : List ℕ) → Held
held_of soil elements load burden solids water =
    record { soil = soil; elements = elements; load = load; burden = burden; solids = solids; water = water }

-- p and r of element j
abbrev pub excess_at : Held → ℕ → ℤ
excess_at h j =
    excess_pressure (skeleton_of (compressibility_points h.soil)) h.load (get_or h.burden j 0) (get_or h.solids j 0) (get_or h.water j 0)

abbrev pub resistance_at : Held → ℕ → ℕ
resistance_at h j = resistance (conductivity_points h.soil) (get_or h.solids j 0) (get_or h.water j 0)

-- its curves are sound, and its elements are on the first
pub record Stands (h : Held) : Type 0 where
  pub soil :
      SoilSound h.soil.counts.compressibility h.soil.compressibility_void h.soil.compressibility_stress
      h.soil.counts.conductivity h.soil.conductivity_void h.soil.conductivity
  pub on_soil : (j : ℕ) → j < h.elements →
      OnSoil h.soil.counts.compressibility h.soil.compressibility_void h.soil.compressibility_stress h.load
      (get_or h.burden j 0) (get_or h.solids j 0) (get_or h.water j 0)
