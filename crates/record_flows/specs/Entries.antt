-- What is promised of the entries of every accepted call.
use Rattle.std.specs.Prelude.{ℕ, ◌+◌, ℤ, pos, ◌+ℤ◌, ◌-ℤ◌, length, take, List, ◌≡◌}
use Rattle.laws.specs.Divisions.{DividesAtEach, all_upward}
use Rattle.numbers.specs.Lists.{paired, first_or, last_or}
use Rattle.rules.specs.declared.answers.Refusal.{Refusal}
use Rattle.std.specs.Prelude.{Result, Ok}
use Rattle.rules.specs.Calls.{called}
use Rattle.rules.specs.Division.{layer_faces}
use Rattle.rules.specs.Record.{record_site, record_state}
use Rattle.rules.specs.Step.{moved, new_height}
use Rattle.rules.specs.declared.answers.Answer.TheVariants.{Done}
use Rattle.rules.specs.declared.answers.Call.TheVariants.{Step}
use Rattle.rules.specs.declared.record.Record.{Record}

-- a step of t seconds is taken, and moves just the water of these flows
pub record MovesJust (r : Record) (t : ℕ) (flows : List ℤ) : Type 0 where
  pub taken : (called r (Step t)).answer ≡ Done
  pub moves :
      let s = record_state r in
      let upward = all_upward r.layer.frame.top r.layer.frame.bottom flows in
      record_state (called r (Step t)).after ≡ record {
        water = paired new_height s.water (moved upward s.water);
        load = s.load;
        clock = s.clock + t;
        top_outflow = s.top_outflow +ℤ last_or (pos 0) upward;
        bottom_outflow = s.bottom_outflow -ℤ first_or (pos 0) upward;
      }

-- an entry for each inner or drained face: identity, size and sign of each, and the step's own flows
pub record EntriesOf (r : Record) (t n : ℕ) (flows remainders : List ℤ) : Type 0 where
  pub count : n ≡ length (layer_faces (record_site r) (record_state r))
  pub divides : DividesAtEach t (layer_faces (record_site r) (record_state r)) flows remainders
  pub moves_just : MovesJust r t (take n flows)

abbrev pub LongDivision : Record → (t : ℕ) → Result ℕ Refusal → (flows remainders : List ℤ) → Type 0
LongDivision r t answer flows remainders = (n : ℕ) → answer ≡ Ok n → EntriesOf r t n flows remainders
