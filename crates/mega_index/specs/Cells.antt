-- The values of a row's properties.
use Rattle.std.specs.Prelude.{ℕ, ◌==◌, if◌then◌else◌, Bool, List, [], ◌∷◌, map, filter, find}
use Rattle.std.specs.List.{list_any}
use Rattle.std.specs.Option.{option_map_or}
use Rattle.mega_base.specs.declared.values.Value.{Value}
use Rattle.mega_base.specs.declared.values.Cell.{Cell}
use Rattle.mega_base.specs.declared.values.Row.{Row}

-- the values of a property, none where the row has none
abbrev pub values_of : Row → ℕ → List Value
values_of row number = option_map_or (λ (c : Cell). c.values) (find (λ (c : Cell). c.property == number) row.cells) []

-- a first value, where it is the only one, and the values behind it
abbrev pub leading : List Value → List Value → List Value
leading (v ∷ []) others = v ∷ others
leading _ others = []

-- the values of the properties of a key, up to the first property that has not exactly one
abbrev pub key_values : List ℕ → Row → List Value
key_values [] row = []
key_values (n ∷ ns) row = leading (values_of row n) (key_values ns row)

-- one of the numbers is this one
abbrev pub is_listed : List ℕ → ℕ → Bool
is_listed numbers n = list_any (λ m. m == n) numbers

-- the row of these properties alone
abbrev pub row_with : List ℕ → Row → Row
row_with numbers row = record { cells = filter (λ (c : Cell). is_listed numbers c.property) row.cells }

-- the cell with this one value, where it is that of the property
abbrev pub cell_set : ℕ → Value → Cell → Cell
cell_set number value c = if c.property == number then record { property = c.property; values = value ∷ [] } else c

-- the row with this one value of a property that it has
abbrev pub row_set : Row → ℕ → Value → Row
row_set row number value = record { cells = map (cell_set number value) row.cells }
