-- The water of a start that neither 9 nor 20 refuses.
use native.Mathlib.Omega.{arith}
use Prim.Native.Nat.{ℕ}
use mathlib.Core.Bool.{Bool, true, false}
use mathlib.Core.List.{List}
use Rattle.std.specs.Prelude.{Option, None, Some}
use mathlib.Core.Path.{◌≡◌, refl, sym, ap, subst, ◌∙◌}
use Rattle.claims.proofs.Starts.{off_started, unsteady_started, steady-started}
use Rattle.rules.specs.Job.{Description}
use Rattle.rules.specs.Opening.{started_with, not_started, description_water, start_steady, started}
use Rattle.rules.specs.declared.answers.Refusal.{Refusal}
use Rattle.rules.specs.declared.answers.Refusal.TheVariants.{StartOffCurve, StartNotSteady}

module _ (d : Description) where
  not_with : (cause : Refusal) (water : List ℕ) → not_started cause ≡ started_with water → ⊥
  not_with cause water e = let z : ◌≡◌ {A = ℕ} 0 1 = cc in omega arith

  with_same : (found water : List ℕ) → started_with found ≡ started_with water → found ≡ water
  with_same found water e = cc

  -- water that neither 9 nor 20 refuses
  pub started_parts : (water : List ℕ) → started d ≡ started_with water → (description_water d ≡ Some water) × (start_steady d water ≡ true)
  started_parts water e = found (description_water d) refl
    where
      steadied : (found : List ℕ) → description_water d ≡ Some found → (c : Bool) → start_steady d found ≡ c →
          (description_water d ≡ Some water) × (start_steady d water ≡ true)
      steadied found p true s =
          let same = with_same found water (sym (steady-started d found p s) ∙ e) in
          (p ∙ ap Some same, subst (λ (w : List ℕ). start_steady d w ≡ true) same s)
      steadied found p false s = absurd (not_with StartNotSteady water (sym (unsteady_started d found p s) ∙ e))

      found : (o : Option (List ℕ)) → description_water d ≡ o → (description_water d ≡ Some water) × (start_steady d water ≡ true)
      found None p = absurd (not_with StartOffCurve water (sym (off_started d p) ∙ e))
      found (Some W) p = steadied W p (start_steady d W) refl
