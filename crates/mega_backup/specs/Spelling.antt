-- The schedule line of the put of a row, by the names of a schema.
use Rattle.std.specs.Prelude.{ℕ, List, [], ◌∷◌, ◌++◌, codes, map, Option, Some, None, Result, Ok, Err}
use Rattle.serde_json.specs.Data.{Data, boolean, number, string, array, object, Members, no_members, put}
use Rattle.serde_json.specs.Find.{of_integer}
use Rattle.serde_json.specs.View.{items_of}
use Rattle.serde_json.specs.Written.{compact_text}
use Rattle.hex.specs.Hex.{encode_lower}
use Rattle.mega_base.specs.declared.values.Value.{Value}
use Rattle.mega_base.specs.declared.values.Value.TheVariants.{Int32, Int64, Bool as Truth, Str, Raw}
use Rattle.mega_base.specs.declared.values.Cell.{Cell}
use Rattle.mega_base.specs.declared.values.Row.{Row}
use Rattle.mega_keys.specs.declared.fault.KeyFault.{KeyFault}
use Rattle.mega_keys.specs.Reading.{read_key_of}
use Rattle.mega_syntax.specs.declared.need.Need.{Need}
use Rattle.mega_syntax.specs.declared.need.Need.TheVariants.{Required, Optional, Repeated}
use Rattle.mega_schema.specs.declared.schema.Property.{Property}
use Rattle.mega_schema.specs.declared.schema.Table.{Table}
use Rattle.mega_schema.specs.declared.schema.Schema.{Schema}
use Rattle.mega_schema.specs.Shaping.{shape_of}
use Rattle.mega_index.specs.Fits.{numbered}
use Rattle.mega_outcome.specs.declared.transaction.Change.{Change}
use Rattle.mega_outcome.specs.declared.transaction.Change.TheVariants.{Put, Delete, Add}
use Rattle.mega_outcome.specs.declared.transaction.Transaction.{Transaction}

-- numbers as numbers, texts as strings, bytes as strings of lower-case hex
abbrev pub value_data : Value → Data
value_data (Int32 z) = number (of_integer z)
value_data (Int64 z) = number (of_integer z)
value_data (Truth b) = boolean b
value_data (Str text) = string text
value_data (Raw bytes) = string (encode_lower bytes)

abbrev pub values_data : List Value → Data
values_data values = array (items_of (map value_data values))

-- one value as it is, those of a repeated property as a list
abbrev pub cell_data : Need → List Value → Data
cell_data need [] = values_data []
cell_data Repeated (value ∷ values) = values_data (value ∷ values)
cell_data Required (value ∷ values) = value_data value
cell_data Optional (value ∷ values) = value_data value

-- a cell under the name of its property, where there is one
abbrev pub with_cell : Option Property → List Value → Members → Members
with_cell None values members = members
with_cell (Some property) values members = put property.name (cell_data property.need values) members

-- the cells in ascending order of name
abbrev pub cells_members : List Property → List Cell → Members → Members
cells_members properties [] members = members
cells_members properties (cell ∷ cells) members = cells_members properties cells (with_cell (numbered properties cell.property) cell.values members)

abbrev pub properties_of : Option Table → List Property
properties_of None = []
properties_of (Some table) = table.properties

abbrev pub name_of : Option Table → List ℕ
name_of None = []
name_of (Some table) = table.name

abbrev pub row_data : Option Table → Row → Data
row_data table row = object (cells_members (properties_of table) row.cells no_members)

-- the root of a group: the table with the number that its key begins with
abbrev pub root_number : List ℕ → ℕ
root_number [] = 0
root_number (n ∷ bytes) = n

-- its root key values: with the root's number behind it the key is a row key of the root
abbrev pub values_or_none : Result (List Value) KeyFault → List Value
values_or_none (Ok values) = values
values_or_none (Err fault) = []

abbrev pub root_values : Schema → ℕ → Option Table → List ℕ → List Value
root_values s n None key = []
root_values s n (Some t) key = values_or_none (read_key_of (shape_of s n t) (key ++ n ∷ []))

-- the root's name, and the root key values
abbrev pub group_data : Schema → List ℕ → Data
group_data s key =
    let n = root_number key in array (items_of (string (name_of (numbered s.tables n)) ∷ values_data (root_values s n (numbered s.tables n) key) ∷ []))

-- the line of one put at node 1, its keys in ascending order
abbrev pub put_line : Schema → List ℕ → ℕ → Row → List ℕ
put_line s key n row =
    codes "{\"checks\":[],\"do\":\"txn\",\"group\":" ++ (compact_text (group_data s key)
    ++ (codes ",\"node\":1,\"reads\":[],\"sends\":[],\"writes\":[{\"put\":" ++ (compact_text (string (name_of (numbered s.tables n)))
    ++ (codes ",\"row\":" ++ (compact_text (row_data (numbered s.tables n) row) ++ codes "}]}")))))

-- a transaction with one write, which is a put, has a line
abbrev pub line_of_writes : Schema → List ℕ → List Change → List ℕ
line_of_writes s key (Put n row ∷ []) = put_line s key n row
line_of_writes s key [] = []
line_of_writes s key (Put n row ∷ change ∷ changes) = []
line_of_writes s key (Delete row ∷ changes) = []
line_of_writes s key (Add row property sum ∷ changes) = []

abbrev pub line_of : Schema → Transaction → List ℕ
line_of s txn = line_of_writes s txn.group.key txn.writes
