-- Answers, states and sites as text: numbers, each after a space.
use Rattle.std.specs.Prelude.{ℕ, ltb, eqb, true, false, List, ◌++◌}
use Rattle.quantities.specs.declared.Face.{Face}
use Rattle.quantities.specs.declared.Face.TheVariants.{Closed, Drained}
use Rattle.quantities.specs.declared.Head.{Head}
use Rattle.rules.specs.declared.record.CurveCounts.{CurveCounts}
use Rattle.rules.specs.declared.record.Frame.{Frame}
use Rattle.rules.specs.declared.record.Progress.{Progress}
use Rattle.rules.specs.declared.record.Record.{Record}
use Rattle.text.specs.Text.{spaced, signed_spaced, row, trimmed}

-- the refusal number, or 0; of a run that is not refused its stop and its steps too. Kind 0 is a load, 1 a step, any other a run
unfoldable pub answer_text : (kind number stop steps : ℕ) → List ℕ
unfolding spaced
answer_text kind number stop steps =
    elim (eqb number 0) [
      | true ↦ elim (ltb kind 2) [ true ↦ spaced number | false ↦ spaced number ++ spaced stop ++ spaced steps ]
      | false ↦ spaced number
    ]

-- an array, without the zeros at its end
unfoldable pub column_text : List ℕ → List ℕ
unfolding row trimmed
column_text values = row (trimmed values)

-- load, clock, outflows of top and bottom, starting water
unfoldable pub amounts_text : Progress → (start : ℕ) → List ℕ
unfolding spaced signed_spaced
amounts_text p start =
    signed_spaced p.load.0 ++ spaced p.clock.0 ++ signed_spaced p.top_outflow.0 ++ signed_spaced p.bottom_outflow.0 ++
    spaced start

-- what calls change of a record, and its starting water
unfoldable pub state_text : Record → List ℕ
unfolding amounts_text column_text
state_text r = amounts_text r.layer.progress r.layer.frame.starting_water ++ column_text r.layer.water

-- counts of elements and of points of both curves and the load table, gravity
unfoldable pub counts_text : CurveCounts → Frame → List ℕ
unfolding spaced
counts_text curves frame =
    spaced frame.elements ++ spaced curves.compressibility ++ spaced curves.conductivity ++ spaced frame.table_points ++
    spaced frame.gravity

-- 0 and 0, or 1 and the pressure held
unfoldable pub face_text : Face → List ℕ
unfolding spaced signed_spaced
face_text Closed = spaced 0 ++ spaced 0
face_text (Drained held) = spaced 1 ++ signed_spaced held.0

unfoldable pub levels_text : (top bottom : Head) → List ℕ
unfolding signed_spaced
levels_text top bottom = signed_spaced top.0 ++ signed_spaced bottom.0

-- what no call changes of a record, but for its arrays
unfoldable pub site_text : Record → List ℕ
unfolding counts_text face_text levels_text
site_text r =
    let frame = r.layer.frame in
    counts_text r.soil.counts frame ++ face_text frame.top ++ face_text frame.bottom ++
    levels_text frame.top_level frame.bottom_level
