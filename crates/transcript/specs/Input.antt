-- Records as the bytes of a file give them: twenty 64-bit fields, and pairs of them.
use Rattle.std.specs.Prelude.{ℕ, ◌+◌, ◌*◌, leb, eqb, length, Bool, true, false, ◌&&◌, List}
use Rattle.numbers.specs.Bytes.{field, signed_number}
use Rattle.rules.specs.Job.{firsts, seconds}
use Rattle.quantities.specs.Quantities.{head, pressure}
use Rattle.rules.specs.Record.{soil_of, layer_of, record_of}
use Rattle.quantities.specs.declared.Face.{Face}
use Rattle.quantities.specs.declared.Face.TheVariants.{Closed, Drained}
use Rattle.rules.specs.declared.record.Frame.{Frame}
use Rattle.rules.specs.declared.record.Layer.{Layer}
use Rattle.rules.specs.declared.record.Progress.{Progress}
use Rattle.rules.specs.declared.record.Record.{Record}
use Rattle.rules.specs.declared.record.Soil.{Soil}

-- the face that two fields say
unfoldable pub face_in : (kind held : ℕ) → Face
unfolding signed_number
face_in kind held = elim (eqb kind 0) [ true ↦ Closed | false ↦ Drained (pressure (signed_number held)) ]

-- where the pairs of the curves and of the load table begin
unfoldable pub first_curve_at : List ℕ → ℕ
unfolding field
first_curve_at body = 160 + 16 * field 8 128 body

unfoldable pub second_curve_at : List ℕ → ℕ
unfolding field first_curve_at
second_curve_at body = first_curve_at body + 16 * field 8 136 body

unfoldable pub table_at : List ℕ → ℕ
unfolding field second_curve_at
table_at body = second_curve_at body + 16 * field 8 144 body

-- bytes give a record: its twenty fields, and as many pairs as they announce, which the arrays can hold
unfoldable pub is_record : List ℕ → Bool
unfolding field table_at
is_record body =
    leb 160 (length body) && leb (field 8 128 body) 128 && leb (field 8 136 body) 64 && leb (field 8 144 body) 64 &&
    leb (field 8 152 body) 64 && eqb (length body) (table_at body + 16 * field 8 152 body)

-- a list's body is of its kind: 0 a job, any bytes; any other a record
unfoldable pub is_body : (kind : ℕ) (body : List ℕ) → Bool
unfolding is_record
is_body kind body = elim (eqb kind 0) [ true ↦ true | false ↦ is_record body ]

-- the soil: a pair of the first curve is a stress and a void ratio, one of the second a void ratio and a conductivity
unfoldable pub soil_in : List ℕ → Soil
unfolding field firsts seconds first_curve_at second_curve_at
soil_in body =
    soil_of (record { compressibility = field 8 8 body; conductivity = field 8 16 body })
    (seconds 64 (first_curve_at body) (field 8 136 body) body) (firsts 64 (first_curve_at body) (field 8 136 body) body)
    (firsts 64 (second_curve_at body) (field 8 144 body) body) (seconds 64 (second_curve_at body) (field 8 144 body) body)

-- the numbers of the layer: those that no call changes, and the others
unfoldable pub frame_in : List ℕ → Frame
unfolding field signed_number face_in
frame_in body = record {
  top = face_in (field 8 40 body) (field 8 48 body);
  bottom = face_in (field 8 56 body) (field 8 64 body);
  elements = field 8 0 body;
  table_points = field 8 24 body;
  gravity = field 8 32 body;
  top_level = head (signed_number (field 8 72 body));
  bottom_level = head (signed_number (field 8 80 body));
  starting_water = field 8 120 body;
}

unfoldable pub progress_in : List ℕ → Progress
unfolding field signed_number
progress_in body = record {
  load = pressure (signed_number (field 8 88 body));
  clock = record { 0 = field 8 96 body };
  top_outflow = record { 0 = signed_number (field 8 104 body) };
  bottom_outflow = record { 0 = signed_number (field 8 112 body) };
}

-- the layer
unfoldable pub layer_in : List ℕ → Layer
unfolding field firsts seconds table_at frame_in progress_in
layer_in body =
    layer_of (frame_in body) (progress_in body)
    (firsts 128 160 (field 8 128 body) body) (seconds 128 160 (field 8 128 body) body)
    (firsts 64 (table_at body) (field 8 152 body) body) (seconds 64 (table_at body) (field 8 152 body) body)

-- the record
unfoldable pub record_in : List ℕ → Record
unfolding soil_in layer_in
record_in body = record_of (soil_in body) (layer_in body)
