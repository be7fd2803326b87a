-- Keys of bytes, and row keys that an item of a group can name.
use Rattle.std.specs.Prelude.{◌≡◌, ℕ, ◌<◌, List, slice_index, Ok}
use Rattle.mega_base.specs.declared.values.Value.{Value}
use Rattle.mega_schema.specs.declared.schema.Schema.{Schema}
use Rattle.mega_outcome.specs.Places.{key_in}

abbrev pub AreBytes : List ℕ → Type 0
AreBytes key = (i : ℕ) → slice_index key i < 256

-- the key is that of a row of the table with this number, which an item of the group can name
abbrev pub IsNamed : Schema → List ℕ → ℕ → List ℕ → Type 0
IsNamed s group n key = (values : List Value) × (key_in s group 0 n values ≡ Ok key)
