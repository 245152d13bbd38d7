-- A run on a layer leaves a layer of as many elements.
use Prim.Native.Nat.{ℕ, ◌≤◌}
use mathlib.Core.Bool.{true}
use mathlib.Core.List.{List, [], ◌∷◌}
use mathlib.Core.Path.{◌≡◌, refl}
use Rattle.claims.proofs.Events.{run_accepted}
use Rattle.claims.proofs.Stands.{Stands, site_sound, stands_layer, stands_after}
use Rattle.pass.proofs.Reached.{fixed, kept}
use Rattle.rules.specs.Calls.{ended_run}
use Rattle.quantities.specs.Quantities.{clock_limits}
use Rattle.rules.specs.Record.{record_site, record_state, with_state, with_events, is_layer}
use Rattle.rules.specs.Run.{Event, running}
use Rattle.rules.specs.declared.record.Record.{Record}

-- a layer stands at its own state
layer_stands : (r : Record) → is_layer r ≡ true → Stands (record_site r) r.layer.frame.starting_water (record_state r) r
layer_stands r is = record { fixed = fixed r is; site_is = refl; state_is = refl; starting_is = refl; kept = kept r is }

-- events leave the number of elements
elements_after : (r : Record) (es : List Event) → (with_events r es).layer.frame.elements ≡ r.layer.frame.elements
unfolding with_events with_state
elements_after r [] = refl
elements_after r (e ∷ rest) = refl

module _ (r : Record) (end budget : ℕ) where
  pub ended_layer : is_layer r ≡ true → r.layer.progress.clock.0 ≤ end → end ≤ clock_limits.most → is_layer (ended_run r end budget).after ≡ true
  unfolding ended_run record_state
  ended_layer is early late =
      let site = record_site r in
      let s = record_state r in
      let start = r.layer.frame.starting_water in
      let h = layer_stands r is in
      let es = (running site end budget s).events in
      let accepted = run_accepted site (site_sound site start s r h).table end budget s early late in
      stands_layer site start _ (with_events r es) (stands_after site start s r h es accepted)

  pub ended_elements : (ended_run r end budget).after.layer.frame.elements ≡ r.layer.frame.elements
  unfolding ended_run
  ended_elements = elements_after r (running (record_site r) end budget (record_state r)).events
