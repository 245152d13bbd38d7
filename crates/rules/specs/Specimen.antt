-- The specimen, and the nine cases of the proved table. Each case opens the specimen anew from its bytes.
use Rattle.std.specs.Prelude.{ℕ, pos, neg_ℤ, List, [], ◌∷◌, ◌++◌, map, ◌≡◌}
use Rattle.numbers.specs.Bytes.{bytes}
use Rattle.numbers.specs.Lists.{paired}
use Rattle.quantities.specs.Quantities.{head, pressure, pressure_of}
use Rattle.rules.specs.Layer.{State, skeleton, Element, read_elements, effective_stress, burdens}
use Rattle.rules.specs.Outcome.{answer_number}
use Rattle.rules.specs.Record.{record_site, record_state}
use Rattle.rules.specs.Opening.{opening}
use Rattle.rules.specs.Calls.{Replay, replayed}
use Rattle.rules.specs.declared.answers.Call.{Call}
use Rattle.rules.specs.declared.answers.Call.TheVariants.{Load, Step}
use Rattle.quantities.specs.Quantities.{CurveValue}
use Rattle.std.specs.Prelude.{Some}
use Rattle.rules.specs.declared.record.Record.{Record}

unfoldable pub pair : ℕ → ℕ → List ℕ
unfolding bytes
pair a b = bytes 8 a ++ bytes 8 b

-- the bytes of a job like the specimen: L S C, version 1, the top drained and the bottom closed
unfoldable pub job_like : (start gravity water load end budget : ℕ) → List ℕ
unfolding bytes pair
job_like start gravity water load end budget =
    (76 ∷ 83 ∷ 67 ∷ []) ++ bytes 2 1 ++ (1 ∷ 0 ∷ 2 ∷ 2 ∷ 2 ∷ 1 ∷ start ∷ []) ++ bytes 2 gravity ++ (0 ∷ 0 ∷ []) ++
    pair 10_000_000 0 ++ pair end budget ++ pair 1_000_000 water ++ pair 1_000_000 water ++
    pair 5_000_000 200_000_000 ++ pair 105_000_000 100_000_000 ++
    pair 100_000_000 100_000 ++ pair 200_000_000 200_000 ++ pair 0 load

unfoldable pub specimen : List ℕ
unfolding job_like
specimen = job_like 0 1_000 2_000_000 15_000_000 100 1

-- the specimen in start 1, with a load of its own
unfoldable pub resting : (load : ℕ) → List ℕ
unfolding job_like
resting load = job_like 1 1_000 0 load 100 1

-- the specimen with heavier solids
unfoldable pub heavier : List ℕ
unfolding job_like
heavier = job_like 0 2_610 2_000_000 15_000_000 100 1

unfoldable pub opening_number : (job : List ℕ) → ℕ
unfolding opening answer_number
opening_number job = answer_number (opening job).answer

-- a job's record as opened
unfoldable pub opened_from : (job : List ℕ) → Record
unfolding opening
opened_from job = (opening job).after

-- the specimen after a list of calls
unfoldable pub specimen_after : List Call → Replay
unfolding replayed opened_from specimen
specimen_after calls = replayed (opened_from specimen) calls

unfoldable pub numbers_after : List Call → List ℕ
unfolding specimen_after answer_number
numbers_after calls = map answer_number (specimen_after calls).answers

unfoldable pub state_after : List Call → State
unfolding specimen_after record_state
state_after calls = record_state (specimen_after calls).after

unfoldable pub record_elements : Record → List Element
unfolding read_elements record_site record_state
record_elements r = read_elements (record_site r) (record_state r)

unfoldable pub record_stresses : Record → List CurveValue
unfolding paired effective_stress record_site record_state
record_stresses r =
    let site = record_site r in
    paired (effective_stress (skeleton site)) site.solids (record_state r).water

unfoldable pub record_burdens : Record → List ℕ
unfolding burdens record_site
record_burdens r = burdens (record_site r).gravity (record_site r).solids

pub record Table : Type 0 where
  pub case_1_resistance : map (λ e. e.resistance) (record_elements (opened_from specimen)) ≡ 73_575 ∷ 73_575 ∷ []
  pub case_1_excess : map (λ e. e.excess) (record_elements (opened_from specimen)) ≡ pos 10_000_000 ∷ pos 10_000_000 ∷ []
  pub case_2_accepted : numbers_after (Step 100 ∷ []) ≡ 0 ∷ []
  pub case_2_water : (state_after (Step 100 ∷ [])).water ≡ 2_000_000 ∷ 1_986_409 ∷ []
  pub case_2_outflow : (state_after (Step 100 ∷ [])).top_outflow ≡ pos 13_591
  pub case_2_stress : record_stresses (specimen_after (Step 100 ∷ [])).after ≡ Some 5_000_000 ∷ Some 6_359_100 ∷ []
  pub case_3_water : (state_after (Step 100 ∷ Step 100 ∷ [])).water ≡ 1_999_078 ∷ 1_975_614 ∷ []
  pub case_3_outflow : (state_after (Step 100 ∷ Step 100 ∷ [])).top_outflow ≡ pos 25_308
  pub case_4_accepted : numbers_after (Step 367 ∷ []) ≡ 0 ∷ []
  pub case_4_refused : numbers_after (Step 368 ∷ []) ≡ 14 ∷ []
  pub case_5_refused : numbers_after (Load 300_000_000 ∷ Step 367 ∷ []) ≡ 0 ∷ 15 ∷ []
  pub case_6_accepted : opening_number (resting 15_000_000) ≡ 0
  pub case_6_water : (record_state (opened_from (resting 15_000_000))).water ≡ 1_900_000 ∷ 1_900_000 ∷ []
  pub case_7_accepted : opening_number (resting 105_000_000) ≡ 0
  pub case_7_water : (record_state (opened_from (resting 105_000_000))).water ≡ 1_000_000 ∷ 1_000_000 ∷ []
  pub case_7_above : opening_number (resting 105_000_001) ≡ 9
  pub case_7_below : opening_number (resting 4_999_999) ≡ 9
  pub case_8_burden : record_burdens (opened_from heavier) ≡ 23_691 ∷ 7_897 ∷ []
  pub case_9_positive : pressure_of (head (pos 1_000_000)) ≡ pressure (pos 9_810)
  pub case_9_negative : pressure_of (head (neg_ℤ (pos 50_000))) ≡ pressure (neg_ℤ (pos 490))
