-- What a transaction looks at: rows under keys of its own group.
use Rattle.std.specs.Prelude.{◌≡◌, ℕ, List, Ok}
use Rattle.mega_base.specs.declared.values.Value.{Value}
use Rattle.mega_index.specs.of_schema.declared.schema.Schema.{Schema}
use Rattle.mega_index.specs.Rows.{Rows}
use Rattle.mega_outcome.specs.Places.{key_in}

-- the same rows stand under each key that an item of the group can name
abbrev pub AgreeIn : Schema → List ℕ → Rows → Rows → Type 0
AgreeIn s group rows other = (i n : ℕ) (values : List Value) (key : List ℕ) → key_in s group i n values ≡ Ok key → rows key ≡ other key
