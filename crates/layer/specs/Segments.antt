-- Arrays that hold a segment of a curve for each element.
use Rattle.std.specs.Prelude.{ℕ, ◌+◌, ◌<◌, get_or, List, ◌≡◌}
use Rattle.numbers.specs.Arrays.{first_places, overlaid}

-- the first places hold segments of a curve of so many points, and the places past them are as before
pub record Segments (count points : ℕ) (before after : List ℕ) : Type 0 where
  pub is_on_curve : (j : ℕ) → j < count → get_or after j 0 + 1 < points
  pub kept : after ≡ overlaid (first_places count after) before
