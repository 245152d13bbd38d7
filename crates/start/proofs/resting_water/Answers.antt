use Prim.Native.Nat.{ℕ, ◌+◌, ◌-◌, ◌/◌, ◌≤◌, ◌<◌}
use native.Mathlib.Nat.{le_refl}
use native.Mathlib.Omega.{arith}
use lib.Dec.{T}
use mathlib.Core.Bool.{Bool, false}
use mathlib.Core.Path.{◌≡◌, sym, ◌∙◌}
use Rattle.numbers.proofs.Searches.{passed}
use Rattle.rules.specs.Curve.{points}
use Rattle.quantities.specs.Quantities.{water_limits}
use Rattle.rules.proofs.Sound.{Compressible, compressible}
use Rattle.start.proofs.AtRest.{rests_at, rests_between, none_below, rests_least, rests_nowhere}
use Rattle.start.proofs.resting_water.Goals as goal
use Rattle.start.proofs.resting_water.Lts as lts
use Rattle.start.proofs.resting_water.Reads as reads
use Rattle.start.proofs.resting_water.Tie as tie

curve : (s : lts.Start tie.the-claims reads.Pre reads.Post goal.the-invariant-loop-low goal.the-decreases-loop-low tie.handed_clauses) → Compressible s.args.skeleton.points s.args.void.now s.args.stress.now
curve s = compressible s.args.skeleton.points s.args.void.now s.args.stress.now s.requires.stress_value

-- an element rests with some water
abbrev rests : (s : lts.Start tie.the-claims reads.Pre reads.Post goal.the-invariant-loop-low goal.the-decreases-loop-low tie.handed_clauses) → ℕ → Bool
rests s W = rests_at (points s.args.skeleton.points s.args.void.now s.args.stress.now) s.args.solids s.args.most W

module _ (l : lts.At-loop tie.the-claims reads.Pre reads.Post goal.the-invariant-loop-low goal.the-decreases-loop-low tie.handed_clauses) where
  abbrev s : lts.Start tie.the-claims reads.Pre reads.Post goal.the-invariant-loop-low goal.the-decreases-loop-low tie.handed_clauses
  s = l.before.before.before.before.before.before.before.before.before

  abbrev low : ℕ
  low = l.loop-low.low

  abbrev high : ℕ
  high = l.loop-low.high

  abbrev middle : ℕ
  middle = low + (high - low) / 2

  high-most : high ≤ water_limits.most
  high-most = omega (arith, l.loop-low.invariant.1, l.highest_water-high.ensures.1)

  -- no height up to a middle that does not rest does
  below-middle : low < high → rests s middle ≡ false → (U : ℕ) → U < middle + 1 → T (rests s U) → ⊥
  below-middle h fails U k =
      none_below _ _ _ s.requires.least_le_points.0 s.requires.stress_value _ s.requires.solids_nonzero.0 _ middle
      (omega (arith, l.loop-low.invariant.1, l.highest_water-high.ensures.0)) fails U (omega arith)

pub highest_water-high-requires : goal.highest_water-high-requires
highest_water-high-requires c = let s = c.before.before.before in record {
  solids_nonzero = s.requires.solids_nonzero;
  void_le_most = (curve s).void_high 0 (omega arith);
}

pub returns-then-not-rests : goal.returns-then-not-rests
returns-then-not-rests c =
    let s = c.before.before.before.before.before.before in
    let high = c.highest_water-high in
    let fails : rests s high.result ≡ false = sym c.rests.ensures ∙ c.if-not-rests.true in
    sym (rests_nowhere _ _ _ s.requires.least_le_points.0 s.requires.stress_value _ s.requires.solids_nonzero.0 _ (rw (← high.ensures.0) fails))

pub lowest_water-low-requires : goal.lowest_water-low-requires
lowest_water-low-requires c = let s = c.before.before.before.before.before.before.before.before in (s.requires.solids_nonzero.1, (curve s).void_high _ (omega arith))

pub loop-low-init : goal.loop-low-init
loop-low-init c =
    let between = rests_between _ _ _ c.requires.least_le_points.0 c.requires.stress_value _ c.requires.solids_nonzero.0 c.args.most in
    let at-highest = passed (sym c.rests.ensures ∙ c.if-not-rests.false) in (
      rw c.lowest_water-low.ensures.0 (between _ at-highest).0,
      le_refl _,
      at-highest,
      λ U h t. omega (arith, c.lowest_water-low.ensures.0, (between U t).0),
    )

pub overflow_add-middle : goal.overflow_add-middle
overflow_add-middle c = omega (arith, high-most c.before.before)

pub rests-requires-in-loop-low-clause-solids_nonzero : goal.rests-requires-in-loop-low-clause-solids_nonzero
rests-requires-in-loop-low-clause-solids_nonzero c = (c.requires.solids_nonzero.0, omega (arith, high-most c.before.before))

pub loop-low-preserved-then-rests : goal.loop-low-preserved-then-rests
loop-low-preserved-then-rests c =
    (omega arith, omega (arith, c.loop-low.invariant.1), passed (sym c.rests-in-loop-low.ensures ∙ c.if-rests.true), c.loop-low.invariant.3)

pub overflow_add-low : goal.overflow_add-low
overflow_add-low c = omega (arith, high-most c.before.before.before.before)

pub loop-low-preserved : goal.loop-low-preserved
loop-low-preserved c =
    let l = c.before.before.before.before in
    (omega arith, l.loop-low.invariant.1, l.loop-low.invariant.2, below-middle l (omega arith) (sym c.rests-in-loop-low.ensures ∙ c.if-rests.false))

pub returns : goal.returns
returns c =
    let l = c.before.before in
    sym (rests_least _ _ _ (s l).requires.least_le_points.0 (s l).requires.stress_value _ (s l).requires.solids_nonzero.0 _ (high l) (high-most l)
    l.loop-low.invariant.2 (λ U h. l.loop-low.invariant.3 U (omega arith)))
