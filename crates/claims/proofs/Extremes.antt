-- All of some numbers lie between the least and the greatest of them.
use lib.IntN.{ℤ}
use lib.Signed.{le_z, ◌≤ℤ◌, ≤ℤ_refl}
use mathlib.Core.Bool.{Bool, true, false}
use mathlib.Core.List.{List, [], ◌∷◌, ◌++◌, map}
use mathlib.Core.Logic.{◌↔◌}
use mathlib.Core.Path.{◌≡◌, refl}
use Rattle.claims.specs.Pressures.{held, pressures, lowest, highest}
use Rattle.laws.specs.Amid.{Between}
use Rattle.laws.specs.Every.{Every}
use Rattle.laws.proofs.Every.{every_map, every_append}
use Rattle.laws.specs.Faces.{Holds}
use Rattle.numbers.proofs.Signed.{signed}
use Rattle.rules.specs.Layer.{Site, State, read_elements}
use Rattle.rules.specs.Tally.{excesses}
use Rattle.quantities.specs.declared.Face.{Face}
use Rattle.quantities.specs.declared.Face.TheVariants.{Closed, Drained}

-- every image passes just where every entry's image passes
pub every_image : {A B : Type 0} (P : B → Type 0) (f : A → B) (l : List A) → Every P (map f l) ↔ Every (λ a. P (f a)) l
unfolding Every
every_image P f [] = (λ e. e, λ e. e)
every_image P f (a ∷ rest) =
    let ih = every_image P f rest in
    ((λ e. (e.0, ih.0 e.1)), λ e. (e.0, ih.1 e.1))

lesser : (a b : ℤ) → let c = elim (le_z a b) as (λ _. ℤ) [ true ↦ a | false ↦ b ] in (c ≤ℤ a) × (c ≤ℤ b)
lesser a b = go (le_z a b) refl
  where
    go : (t : Bool) → le_z a b ≡ t → let c = elim t as (λ _. ℤ) [ true ↦ a | false ↦ b ] in (c ≤ℤ a) × (c ≤ℤ b)
    go true e = (omega signed, omega signed)
    go false e = (omega signed, omega signed)

greater : (a b : ℤ) → let c = elim (le_z a b) as (λ _. ℤ) [ true ↦ b | false ↦ a ] in (a ≤ℤ c) × (b ≤ℤ c)
greater a b = go (le_z a b) refl
  where
    go : (t : Bool) → le_z a b ≡ t → let c = elim t as (λ _. ℤ) [ true ↦ b | false ↦ a ] in (a ≤ℤ c) × (b ≤ℤ c)
    go true e = (omega signed, omega signed)
    go false e = (omega signed, omega signed)

pub all-between : (l : List ℤ) → Every (Between (lowest l) (highest l)) l
unfolding Every lowest highest
all-between [] = tt
all-between (z ∷ []) = ((≤ℤ_refl z, ≤ℤ_refl z), tt)
all-between (z ∷ y ∷ rest) =
    let l = lesser z (lowest (y ∷ rest)) in
    let g = greater z (highest (y ∷ rest)) in
    let before = Between (lowest (y ∷ rest)) (highest (y ∷ rest)) in
    let wider = Between (lowest (z ∷ y ∷ rest)) (highest (z ∷ y ∷ rest)) in (
      (l.0, g.0),
      every_map before wider (λ p b. (omega (signed, l.1, b.0), omega (signed, g.1, b.1))) (y ∷ rest) (all-between (y ∷ rest)),
    )

-- what holds of what a face holds
held_holds : (P : ℤ → Type 0) (face : Face) → Every P (held face) → Holds P face
unfolding Every held Holds
held_holds P Closed h = tt
held_holds P (Drained pressure) h = h.0

-- the parts of what holds of all pressures that bound
pub record Bounding (site : Site) (P : ℤ → Type 0) (s : State) : Type 0 where
  pub first : Every (λ e. P e.excess) (read_elements site s)
  pub top : Holds P site.top
  pub bottom : Holds P site.bottom

pub bounding : (site : Site) (s : State) → Bounding site (Between (lowest (pressures site s)) (highest (pressures site s))) s
unfolding pressures
bounding site s =
    let P = Between (lowest (pressures site s)) (highest (pressures site s)) in
    let (front, below) = (every_append P (excesses site s ++ held site.top) (held site.bottom)).0 (all-between (pressures site s)) in
    let (first, above) = (every_append P (excesses site s) (held site.top)).0 front in
    record {
      first = (every_image P (λ e. e.excess) (read_elements site s)).0 first;
      top = held_holds P site.top above;
      bottom = held_holds P site.bottom below;
    }
