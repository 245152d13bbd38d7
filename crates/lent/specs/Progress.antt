-- A layer's progress under another load and after a step, and a refusal.
use Rattle.std.specs.Prelude.{ℕ, ◌+◌, ℤ, ◌+ℤ◌, ◌-ℤ◌}
use Rattle.rules.specs.declared.answers.Answer.TheVariants.{Refused}
use Rattle.rules.specs.declared.answers.Answered.{Answered}
use Rattle.rules.specs.declared.answers.Refusal.{Refusal}
use Rattle.quantities.specs.declared.Pressure.{Pressure}
use Rattle.rules.specs.declared.record.Progress.{Progress}
use Rattle.rules.specs.declared.record.Record.{Record}

-- the progress with another load
abbrev pub loaded : Progress → Pressure → Progress
loaded p load =
    record { load = load; clock = p.clock; top_outflow = p.top_outflow; bottom_outflow = p.bottom_outflow }

-- the progress after a step of t seconds, by its flows up through the bottom and up through the top
abbrev pub later : Progress → (t : ℕ) (first last : ℤ) → Progress
later p t first last = record {
  load = p.load;
  clock = record { 0 = p.clock.0 + t };
  top_outflow = record { 0 = p.top_outflow.0 +ℤ last };
  bottom_outflow = record { 0 = p.bottom_outflow.0 -ℤ first };
}

-- a refusal leaves the record as it was
abbrev pub refused_with : Refusal → Record → Answered
refused_with cause r = record { answer = Refused cause; after = r }
