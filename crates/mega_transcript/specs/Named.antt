-- The numbers of names in a schema: each name is that of the first that has it.
use Rattle.std.specs.Prelude.{ℕ, ◌==◌, ◌&&◌, Bool, List}
use Rattle.std.specs.Str.{is_utf8}
use Rattle.mega_schema.specs.declared.schema.Property.{Property}
use Rattle.mega_schema.specs.declared.schema.Table.{Table}
pub use Rattle.mega_schema.specs.Lookup.{number_of_place, property_number, table_number}

-- the name is a text, and names the table or the property with this number
abbrev pub names_table : List Table → ℕ → List ℕ → Bool
names_table tables n name = is_utf8 name && (table_number tables name == n)

abbrev pub names_property : List Property → ℕ → List ℕ → Bool
names_property properties n name = is_utf8 name && (property_number properties name == n)
