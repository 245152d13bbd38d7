-- When a layer is steady: over 1,000 s as much water flows through one face as through another, to a nanometre.
use Rattle.std.specs.Prelude.{ℕ, leb, ℤ, nat_abs, ◌-ℤ◌, Bool, List}
use Rattle.numbers.specs.Lists.{any_two}
use Rattle.rules.specs.Layer.{Site, State, read_elements}
use Rattle.rules.specs.Step.{upward_flows}

-- the seconds over which flows are compared
abbrev pub steady_seconds : ℕ
steady_seconds = 1_000

-- two flows differ by at most 1 nm
unfoldable pub near : (a b : ℤ) → Bool
near a b = leb (nat_abs (a -ℤ b)) 1

-- any two of the flows do
unfoldable pub steady_flows : List ℤ → Bool
unfolding any_two near
steady_flows flows = any_two near flows

-- the upward flows through all faces, a closed one's being 0, of the layer as it stands
unfoldable pub steady : Site → State → Bool
unfolding steady_flows upward_flows read_elements
steady site s = steady_flows (upward_flows site.top site.bottom steady_seconds (read_elements site s))
