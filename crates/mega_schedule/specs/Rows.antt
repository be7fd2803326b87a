-- The checks, reads, writes and sends of a transaction.
use Rattle.std.specs.Prelude.{ℕ, ◌+◌, if◌then◌else◌, nat_lt, List, [], ◌∷◌, ◌++◌, codes, Option, Some, None, is_some, unwrap_or, ◌==◌}
use Rattle.serde_json.specs.Data.{Data, Items, no_items, item, Members, no_members, member}
use Rattle.serde_json.specs.Find.{get, as_array, as_object}
use Rattle.mega_base.specs.declared.values.Kind.{Kind}
use Rattle.mega_base.specs.declared.values.Value.{Value}
use Rattle.mega_base.specs.declared.values.Cell.{Cell}
use Rattle.mega_base.specs.declared.values.Row.{Row}
use Rattle.mega_entry.specs.declared.content.Send.{Send}
use Rattle.mega_schema.specs.declared.schema.Property.{Property}
use Rattle.mega_schema.specs.declared.schema.Table.{Table}
use Rattle.mega_schema.specs.declared.schema.Schema.{Schema}
use Rattle.mega_schema.specs.Rules.{kind_at}
use Rattle.mega_schema.specs.Shaping.{table_at}
use Rattle.mega_outcome.specs.declared.transaction.RowRef.{RowRef}
use Rattle.mega_outcome.specs.declared.transaction.Check.{Check}
use Rattle.mega_outcome.specs.declared.transaction.Check.TheVariants.{There, Gone, Is}
use Rattle.mega_outcome.specs.declared.transaction.Change.{Change}
use Rattle.mega_outcome.specs.declared.transaction.Change.TheVariants.{Put, Delete, Add}
use Rattle.mega_outcome.specs.declared.transaction.Transaction.{Transaction}
use Rattle.mega_schedule.specs.Values.{text_in, whole_in, list_in, bytes_of, value_of, table_number, property_number, properties_of, key_in, group_of}

-- the items of a list, each read so
abbrev pub each_in : {A : Type 0} → (Data → A) → Items → List A
each_in read no_items = []
each_in read (item d ds) = read d ∷ each_in read ds

-- the number of the table that a field names, and the table
abbrev pub table_in : Schema → Option Data → ℕ
table_in schema o = table_number schema (text_in o)

abbrev pub named_in : Schema → Option Data → Option Table
named_in schema o = table_at schema.tables (table_in schema o)

abbrev pub row_of : Schema → List ℕ → Data → RowRef
row_of schema word d = record { table = table_in schema (get word d); key = key_in (named_in schema (get word d)) (list_in (get (codes "key") d)) }

abbrev pub read_of : Schema → Data → RowRef
read_of schema d = row_of schema (codes "row") d

-- the number of the property that a field names, in the table that another names
abbrev pub property_in : Schema → Option Data → Option Data → ℕ
property_in schema table o = property_number (properties_of (named_in schema table)) (text_in o)

-- one value, or the values of a list
abbrev pub cell_values : Option Kind → Data → List Value
cell_values kind d = elim (as_array d) [ None ↦ value_of kind d ∷ [] | Some ds ↦ each_in (value_of kind) ds ]

-- the values that a check compares
abbrev pub is_values : Schema → Data → List Value
is_values schema d =
    each_in (value_of (kind_at (properties_of (named_in schema (get (codes "is") d))) (property_in schema (get (codes "is") d) (get (codes "property") d))))
    (list_in (get (codes "values") d))

abbrev pub check_of : Schema → Data → Check
check_of schema d =
    if is_some (get (codes "there") d) then There (row_of schema (codes "there") d)
    else (if is_some (get (codes "gone") d) then Gone (row_of schema (codes "gone") d)
    else Is (row_of schema (codes "is") d) (property_in schema (get (codes "is") d) (get (codes "property") d)) (is_values schema d))

-- a cell where there are values
abbrev pub cell_if : ℕ → List Value → List Cell
cell_if n [] = []
cell_if n (value ∷ values) = record { property = n; values = value ∷ values } ∷ []

-- the cell of a name that is no property's, under the number 0
abbrev pub unknown_cell : List Property → List ℕ → Data → List Cell
unknown_cell properties name d = if property_number properties name == 0 then cell_if 0 (cell_values None d) else []

-- the cells of all such names, in order of name
abbrev pub unknown_cells : List Property → Members → List Cell
unknown_cells properties no_members = []
unknown_cells properties (member name d ms) = unknown_cell properties name d ++ unknown_cells properties ms

abbrev pub field_values : Option Kind → Option Data → List Value
field_values kind None = []
field_values kind (Some d) = cell_values kind d

-- the number behind a property's: a table has at most 64
abbrev pub number_behind : ℕ → ℕ
number_behind n = if nat_lt n 255 then n + 1 else 255

-- the cells of the properties that are there, of those numbered from n on
abbrev pub known_cells : ℕ → List Property → Data → List Cell
known_cells n [] d = []
known_cells n (p ∷ ps) d = cell_if n (field_values (Some p.kind) (get p.name d)) ++ known_cells (number_behind n) ps d

abbrev pub members_in : Data → Members
members_in d = unwrap_or (as_object d) no_members

abbrev pub cells_in : List Property → Option Data → List Cell
cells_in properties None = []
cells_in properties (Some d) = unknown_cells properties (members_in d) ++ known_cells 1 properties d

-- the row of a put: its cells stand in ascending order of number
abbrev pub put_row : Schema → Data → Row
put_row schema d = record { cells = cells_in (properties_of (named_in schema (get (codes "put") d))) (get (codes "row") d) }

abbrev pub write_of : Schema → Data → Change
write_of schema d =
    if is_some (get (codes "put") d) then Put (table_in schema (get (codes "put") d)) (put_row schema d)
    else (if is_some (get (codes "delete") d) then Delete (row_of schema (codes "delete") d)
    else Add (row_of schema (codes "add") d) (property_in schema (get (codes "add") d) (get (codes "property") d)) (whole_in (get (codes "by") d)))

abbrev pub send_of : Schema → Data → Send
send_of schema d = record {
  to = group_of schema (get (codes "to") d);
  queue = text_in (get (codes "queue") d);
  payload = bytes_of (text_in (get (codes "payload") d));
}

-- the transaction of a group with the four lists of an object
abbrev pub transaction_of : Schema → Option Data → Data → Transaction
transaction_of schema group d = record {
  group = group_of schema group;
  checks = each_in (check_of schema) (list_in (get (codes "checks") d));
  reads = each_in (read_of schema) (list_in (get (codes "reads") d));
  writes = each_in (write_of schema) (list_in (get (codes "writes") d));
  sends = each_in (send_of schema) (list_in (get (codes "sends") d));
}
