-- The burdens of a layer in an array.
use Rattle.std.specs.Prelude.{ℕ, List}
use Rattle.weights.specs.Weights.{burden_at}
use Rattle.numbers.specs.Arrays.{zeros, filled}
use Rattle.rules.specs.declared.record.Frame.{Frame}

-- B of every element in the first places of an array of zeros
abbrev pub burdens_in : Frame → (solids : List ℕ) → List ℕ
burdens_in frame solids = filled (zeros 128) frame.elements (burden_at frame.gravity frame.elements solids)
