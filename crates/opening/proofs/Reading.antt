-- What is read of a job is its description, and fills its arrays.
use Prim.Native.Nat.{ℕ}
use lib.ListN.{length}
use mathlib.Core.Bool.{true}
use mathlib.Core.List.{List}
use mathlib.Core.Path.{◌≡◌, ◌∙◌}
use Rattle.description.specs.Lent.{description_of}
use Rattle.job.specs.Pairs.{Pairs}
use Rattle.laws.proofs.SoundHeader.{kept_header}
use Rattle.numbers.specs.Arrays.{zeros}
use Rattle.numbers.specs.Bytes.{field}
use Rattle.numbers.proofs.Filled.{length-filled, length-zeros}
use Rattle.rules.specs.Job.{Description, described, firsts, header_sound, seconds}
use Rattle.rules.specs.declared.job.Header.{Header}

-- a header and the pairs of a description make it up
pub lent_described : (d : Description) {header : Header}
    {solids water compressibility_void compressibility_stress conductivity_void conductivity table_time table_load : List ℕ} → header ≡ d.header →
    Pairs d solids water compressibility_void compressibility_stress conductivity_void conductivity table_time table_load →
    description_of header compressibility_void compressibility_stress conductivity_void conductivity solids water table_time table_load ≡ d
lent_described d e p = λ i. record {
  header = e i;
  solids = p.solids_held i;
  water = p.water_held i;
  compressibility_void = p.compressibility_void_held i;
  compressibility_stress = p.compressibility_stress_held i;
  conductivity_void = p.conductivity_void_held i;
  conductivity = p.conductivity_held i;
  table_time = p.table_time_held i;
  table_load = p.table_load_held i;
}

-- the water of a job whose header is sound is an array's
pub water_long : (job : List ℕ) → header_sound (described job).header ≡ true → length (described job).water ≡ 128
unfolding described seconds firsts
water_long job kept =
    let few = (kept_header (described job).header kept).elements_kept.most in
    length-filled (zeros 128) (field 1 7 job) _ (rw (length-zeros 128) few) ∙ length-zeros 128
