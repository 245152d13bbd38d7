-- A list of calls on a record: every answer and the last record are the tally's, and no call finds the record no layer.
use Prim.Native.Nat.{ℕ}
use mathlib.Core.List.{List, [], ◌∷◌}
use mathlib.Core.Path.{◌≡◌, refl, sym, ap, subst, ◌∙◌}
use Rattle.claims.proofs.Accepted.{AllAccepted}
use Rattle.claims.proofs.Events.{call_accepted}
use Rattle.claims.proofs.Courses.{tally_own, tallied_state, tallied_solids}
use Rattle.claims.proofs.Stands.{Stands, site_sound, stands_layer, stands_after}
use Rattle.rules.specs.Calls.{called, replayed}
use Rattle.rules.specs.Layer.{Site, State}
use Rattle.rules.specs.Outcome.{Outcome, outcome}
use Rattle.rules.specs.Record.{with_events}
use Rattle.rules.specs.Tally.{Tally, tally_site, tallied, course}
use Rattle.rules.specs.declared.answers.Answer.{Answer}
use Rattle.rules.specs.declared.answers.Answered.{Answered}
use Rattle.rules.specs.declared.answers.Call.{Call}
use Rattle.rules.specs.declared.record.Record.{Record}

module _ (site : Site) (start : ℕ) where
  -- a call on a record that stands at a state answers and leaves what the rules work out there
  pub called_standing : (s : State) (r : Record) (call : Call) → Stands site start s r →
      called r call ≡ record { answer = (outcome site s call).answer; after = with_events r (outcome site s call).events }
  unfolding called
  called_standing s r call h = rw (stands_layer site start s r h, called, h.site_is, h.state_is)

  -- a list of calls does what the tally says
  pub record Follows (calls : List Call) (r : Record) (y : Tally) : Type 0 where
    pub answers : (replayed r calls).answers ≡ (course site calls y).answers
    pub stands : Stands site start (course site calls y).tally.state (replayed r calls).after

  pub follows : (calls : List Call) (r : Record) (y : Tally) → y.solids ≡ site.solids → Stands site start y.state r → Follows calls r y
  unfolding replayed course
  follows [] r y own h = record { answers = refl; stands = h }
  follows (call ∷ rest) r y own h =
      let s = y.state in
      let o = outcome (tally_site site y) s call in
      let as-site : o ≡ outcome site s call = ap (λ (x : Site). outcome x s call) (tally_own site y own) in
      let e : called r call ≡ record { answer = o.answer; after = with_events r o.events } =
      called_standing s r call h ∙ ap (λ (x : Outcome). record { answer = x.answer; after = with_events r x.events }) (sym as-site) in
      let accepted : AllAccepted site s o.events =
      rw as-site (call_accepted site (site_sound site start s r h).table s call) in
      let next = stands_after site start s r h o.events accepted in
      let after = tallied site o.events y in
      let more = follows rest (with_events r o.events) after (tallied_solids site o.events y ∙ own) (rw (tallied_state site o.events y own) next) in
      record {
        answers =
            ap (λ (a : Answered). a.answer ∷ (replayed a.after rest).answers) e ∙
            ap (λ (l : List Answer). o.answer ∷ l) more.answers;
        stands =
            subst (λ (a : Answered). Stands site start (course site rest after).tally.state (replayed a.after rest).after) (sym e)
            more.stands;
      }
