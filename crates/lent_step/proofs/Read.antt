-- A layer that is set up and read so is the record itself.
use Prim.Native.Nat.{ℕ}
use lib.IntN.{ℤ}
use mathlib.Core.List.{List}
use mathlib.Core.Path.{◌≡◌, subst}
use Rattle.rules.specs.Record.{layer_of, record_of}
use Rattle.rules.specs.declared.record.Frame.{Frame}
use Rattle.rules.specs.declared.record.Progress.{Progress}
use Rattle.rules.specs.declared.record.Record.{Record}
use Rattle.lent_step.specs.Read.{ReadAs}

-- the record with these numbers and this water
abbrev pub lent_of : Record → Frame → Progress → (water : List ℕ) → Record
lent_of r frame progress water =
    let l = r.layer in record_of r.soil (layer_of frame progress l.solids water l.table_time l.table_load)

module _ {r : Record} {frame : Frame} {progress : Progress} {steepness : ℕ} {sensitivity low high : List ℕ} {excess : List ℤ}
    {resistance water : List ℕ} (read : ReadAs r frame progress steepness sensitivity low high excess resistance water) where
  -- it is the record itself
  pub lent_is : r ≡ lent_of r frame progress water
  lent_is i = lent_of r (read.frame_is i) (read.progress_is i) (read.water_is i)

  pub lent_read : ReadAs (lent_of r frame progress water) frame progress steepness sensitivity low high excess resistance water
  lent_read = subst (λ (x : Record). ReadAs x frame progress steepness sensitivity low high excess resistance water) lent_is read
