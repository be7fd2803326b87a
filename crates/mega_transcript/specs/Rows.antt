-- Rows, finds and marks as JSON, by the names of a schema.
use Rattle.std.specs.Prelude.{ℕ, ◌==◌, ◌&&◌, Bool, nat_lt, if◌then◌else◌, List, [], ◌∷◌, length, map, Option, Some, None}
use Rattle.std.specs.List.{list_all}
use Rattle.serde_json.specs.Data.{Data, null, boolean, number, string, array, object, unsigned, Members, no_members, put}
use Rattle.serde_json.specs.Find.{of_integer}
use Rattle.serde_json.specs.View.{items_of}
use Rattle.hex.specs.Hex.{encode_lower}
use Rattle.mega_base.specs.declared.values.Value.{Value}
use Rattle.mega_base.specs.declared.values.Value.TheVariants.{Int32, Int64, Bool as Truth, Str, Raw}
use Rattle.mega_base.specs.declared.values.Cell.{Cell}
use Rattle.mega_base.specs.declared.values.Row.{Row}
use Rattle.mega_keys.specs.Fit.{has_kind}
use Rattle.mega_schema.specs.declared.schema.Property.{Property}
use Rattle.mega_schema.specs.declared.schema.Table.{Table}
use Rattle.mega_schema.specs.declared.schema.Schema.{Schema}
use Rattle.mega_schema.specs.Lookup.{property_at, is_repeated}
use Rattle.mega_schema.specs.Shaping.{table_at}
pub use Rattle.mega_schema.specs.Lookup.{properties_in as properties_of}
use Rattle.mega_outcome.specs.of_index.declared.found.Found.{Found}
use Rattle.mega_outcome.specs.declared.answer.Shown.{Shown}
use Rattle.mega_outcome.specs.declared.answer.Mark.{Mark}

-- numbers as numbers, texts as strings, bytes as strings of lower-case hex
abbrev pub value_data : Value → Data
value_data (Int32 z) = number (of_integer z)
value_data (Int64 z) = number (of_integer z)
value_data (Truth b) = boolean b
value_data (Str text) = string text
value_data (Raw bytes) = string (encode_lower bytes)

abbrev pub values_data : List Value → Data
values_data values = array (items_of (map value_data values))

-- the values are of the property's kind: one, or for a repeated property one or more
abbrev pub fits_property : Property → List Value → Bool
fits_property property values =
    list_all (has_kind property.kind) values && (if is_repeated property.need then nat_lt 0 (length values) else length values == 1)

-- one value as it is, those of a repeated property as a list
abbrev pub cell_data : Property → List Value → Data
cell_data property [] = values_data []
cell_data property (value ∷ values) = if is_repeated property.need then values_data (value ∷ values) else value_data value

-- the members with those of a cell: a cell that does not fit is left out
abbrev pub with_cell : Option Property → List Value → Members → Members
with_cell None values members = members
with_cell (Some property) values members = if fits_property property values then put property.name (cell_data property values) members else members

-- the cells by the names of their properties, in ascending order of name
abbrev pub cells_members : List Property → List Cell → Members → Members
cells_members properties [] members = members
cells_members properties (cell ∷ cells) members = cells_members properties cells (with_cell (property_at properties cell.property) cell.values members)

-- a table's name and properties: none where there is no such table
abbrev pub name_of : Option Table → List ℕ
name_of None = []
name_of (Some table) = table.name

abbrev pub row_data : Option Table → Row → Data
row_data table row = object (cells_members (properties_of table) row.cells no_members)

-- [table, object], or null for a row that is not there
abbrev pub shown_data : Schema → Option Shown → Data
shown_data schema None = null
shown_data schema (Some shown) =
    let table = table_at schema.tables shown.table in array (items_of (string (name_of table) ∷ row_data table shown.row ∷ []))

abbrev pub rows_data : Schema → List (Option Shown) → Data
rows_data schema rows = array (items_of (map (shown_data schema) rows))

-- [table, [key], stored object]
abbrev pub found_data : Schema → Found → Data
found_data schema found =
    let table = table_at schema.tables found.table in array (items_of (string (name_of table) ∷ values_data found.key ∷ row_data table found.stored ∷ []))

abbrev pub finds_data : Schema → List Found → Data
finds_data schema finds = array (items_of (map (found_data schema) finds))

-- [group, position]
abbrev pub mark_data : Mark → Data
mark_data mark = array (items_of (string (encode_lower mark.group.key) ∷ number (unsigned mark.position.0) ∷ []))

abbrev pub marks_data : List Mark → Data
marks_data marks = array (items_of (map mark_data marks))
