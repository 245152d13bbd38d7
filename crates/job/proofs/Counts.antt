-- The counts of a job that is refused for none of the causes 1 to 4.
use Prim.Native.Nat.{ℕ, ◌+◌, ◌*◌, ◌≤◌}
use mathlib.Core.Bool.{true}
use mathlib.Core.Path.{◌≡◌}
use Rattle.laws.proofs.SoundHeader.{kept_header}
use Rattle.rules.specs.Job.{header_sound, job_length}
use Rattle.quantities.specs.Quantities.{element_limits, curve_limits, table_limits}
use Rattle.rules.specs.declared.job.Header.{Header}

-- they keep their arrays' sizes, and the length is theirs
pub record Counted (elements compressibility_points conductivity_points table_points size : ℕ) : Type 0 where
  pub elements_most : elements ≤ element_limits.most
  pub compressibility_most : compressibility_points ≤ curve_limits.most
  pub conductivity_most : conductivity_points ≤ curve_limits.most
  pub table_most : table_points ≤ table_limits.most
  pub whole : size ≡ 48 + 16 * (elements + compressibility_points + conductivity_points + table_points)

pub counted : (h : Header) (size : ℕ) → header_sound h ≡ true → size ≡ job_length h →
    Counted h.elements h.compressibility_points h.conductivity_points h.table_points size
unfolding job_length
counted h size kept e =
    let s = kept_header h kept in
    record {
      elements_most = s.elements_kept.most;
      compressibility_most = s.compressibility_kept.most;
      conductivity_most = s.conductivity_kept.most;
      table_most = s.table_kept.most;
      whole = e;
    }
