-- A record stands at a state of a site: it is a layer that shows both, and accepted events take it to the state after them.
use Prim.Native.Nat.{ℕ}
use lib.ListN.{length}
use mathlib.Core.Bool.{true}
use mathlib.Core.List.{List}
use mathlib.Core.Path.{◌≡◌, sym, ap, ◌∙◌}
use Rattle.claims.proofs.Accepted.{AllAccepted}
use Rattle.claims.proofs.Fixed.{Fixed, sound_site, is_a_layer, fixed_after, site_after, starting_after, state_after}
use Rattle.claims.proofs.Kept.{SoundSite, Kept, events_keep}
use Rattle.numbers.proofs.Filled.{first_length}
use Rattle.rules.specs.Layer.{Site, State}
use Rattle.rules.specs.Record.{record_site, record_state, with_events, is_layer}
use Rattle.rules.specs.Run.{Event, after_events}
use Rattle.rules.specs.declared.record.Record.{Record}

pub record Stands (site : Site) (start : ℕ) (s : State) (r : Record) : Type 0 where
  pub fixed : Fixed r
  pub site_is : record_site r ≡ site
  pub state_is : record_state r ≡ s
  pub starting_is : r.layer.frame.starting_water ≡ start
  pub kept : Kept site start s

-- a solids height for each element
solids_many : (r : Record) → length (record_site r).solids ≡ r.layer.frame.elements
unfolding record_site
solids_many r = first_length r.layer.frame.elements r.layer.solids

module _ (site : Site) (start : ℕ) (s : State) (r : Record) (h : Stands site start s r) where
  pub site_sound : SoundSite site
  site_sound = rw h.site_is at (sound_site r h.fixed)

  -- it is a layer
  pub stands_layer : is_layer r ≡ true
  stands_layer = is_a_layer r h.fixed (rw (h.site_is, h.state_is, h.starting_is) h.kept)

  -- and stays one along accepted events
  pub stands_after : (es : List Event) → AllAccepted site s es → Stands site start (after_events site es s) (with_events r es)
  stands_after es a =
      let kept = events_keep site site_sound start es s a h.kept in
      let size = kept.size ∙ ap (λ (x : Site). length x.solids) (sym h.site_is) ∙ solids_many r in
      record {
        fixed = fixed_after r es h.fixed;
        site_is = site_after r es ∙ h.site_is;
        state_is = rw (h.site_is, h.state_is) at (state_after r es (rw (h.site_is, h.state_is) size));
        starting_is = starting_after r es ∙ h.starting_is;
        kept = kept;
      }
