-- What a line asks of a node.
use Rattle.std.specs.Prelude.{ℕ, ◌&&◌, Bool, false, not, if◌then◌else◌, List, [], position, codes, Option, Some, None, is_some, option_and_then, unwrap_or, option_map}
use Rattle.serde_json.specs.Data.{Data}
use Rattle.serde_json.specs.Find.{get, as_str}
use Rattle.mega_base.specs.declared.names.GroupId.{GroupId}
use Rattle.mega_base.specs.declared.values.Value.{Value}
use Rattle.mega_syntax.specs.Names.{same}
use Rattle.mega_schema.specs.declared.schema.Index.{Index}
use Rattle.mega_schema.specs.declared.schema.Schema.{Schema}
use Rattle.mega_schema.specs.Shaping.{table_at}
use Rattle.mega_outcome.specs.of_index.Fits.{numbered}
use Rattle.mega_outcome.specs.declared.request.Mode.{Mode}
use Rattle.mega_outcome.specs.declared.request.Mode.TheVariants.{Snapshot}
use Rattle.mega_outcome.specs.declared.request.ReadRequest.{ReadRequest}
use Rattle.mega_outcome.specs.declared.request.FindRequest.{FindRequest}
use Rattle.mega_outcome.specs.declared.request.Request.{Request}
use Rattle.mega_outcome.specs.declared.request.Request.TheVariants.{Batch, PumpEnter, PumpHandle}
use Rattle.mega_schedule.specs.declared.form.Pump.{Pump}
use Rattle.mega_schedule.specs.declared.form.Pump.TheVariants.{Handle}
use Rattle.mega_schedule.specs.Forms.{mode_named, pump_named}
use Rattle.mega_schedule.specs.Values.{text_in, list_in, values_at, number_of_place, properties_of, group_of}
use Rattle.mega_schedule.specs.Rows.{each_in, read_of, transaction_of}

-- the mode that a field names; a snapshot where there is none
abbrev pub mode_in : Option Data → Mode
mode_in o = unwrap_or (option_and_then mode_named (option_and_then as_str o)) Snapshot

abbrev pub batch_of : Schema → Data → Request
batch_of schema d =
    Batch (group_of schema (get (codes "group") d)) (each_in (transaction_of schema (get (codes "group") d)) (list_in (get (codes "txns") d)))

abbrev pub read_request : Schema → Data → ReadRequest
read_request schema d = record {
  mode = mode_in (get (codes "mode") d);
  group = group_of schema (get (codes "group") d);
  rows = each_in (read_of schema) (list_in (get (codes "rows") d));
}

abbrev pub index_number : Schema → List ℕ → ℕ
index_number schema name = number_of_place (position (λ i. same i.name name) schema.indexes)

-- a local index has a mode and a group, a global one has neither
abbrev pub has_its_fields : Option Index → Bool → Bool → Bool
has_its_fields None mode group = false
has_its_fields (Some index) mode group = if index.global then not mode && not group else mode && group

-- the values in the places of the index
abbrev pub indexed_values : Schema → Option Index → Option Data → List Value
indexed_values schema None o = values_at [] [] (list_in o)
indexed_values schema (Some index) o = values_at (properties_of (table_at schema.tables index.table)) index.indexed (list_in o)

abbrev pub index_in : Schema → Data → ℕ
index_in schema d = index_number schema (text_in (get (codes "index") d))

-- an index with the wrong fields for its kind has the number 0
abbrev pub index_or_none : Schema → Data → ℕ
index_or_none schema d =
    if has_its_fields (numbered schema.indexes (index_in schema d)) (is_some (get (codes "mode") d)) (is_some (get (codes "group") d))
    then index_in schema d else 0

abbrev pub group_if : Schema → Option Data → Option GroupId
group_if schema d = option_map (λ (d : Data). group_of schema (Some d)) d

abbrev pub find_request : Schema → Data → FindRequest
find_request schema d = record {
  mode = mode_in (get (codes "mode") d);
  group = group_if schema (get (codes "group") d);
  index = index_or_none schema d;
  values = indexed_values schema (numbered schema.indexes (index_in schema d)) (get (codes "values") d);
}

abbrev pub pump_request : Option Pump → Request
pump_request (Some Handle) = PumpHandle
pump_request _ = PumpEnter

abbrev pub pump_of : Data → Request
pump_of d = pump_request (option_and_then pump_named (option_and_then as_str (get (codes "what") d)))
