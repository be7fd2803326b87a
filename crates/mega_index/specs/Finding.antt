-- What is found in an index.
use Rattle.std.specs.Prelude.{ℕ, ◌+◌, List, [], ◌∷◌, ◌++◌, map, filter, nat_eq, Option, Some, None, Result, Ok, Err}
use Rattle.std.specs.List.{starts_with, flat_map}
use Rattle.mega_base.specs.declared.values.Value.{Value}
use Rattle.mega_base.specs.declared.values.Kind.{Kind}
use Rattle.mega_schema.specs.declared.schema.Property.{Property}
use Rattle.mega_schema.specs.declared.schema.Table.{Table}
use Rattle.mega_schema.specs.declared.schema.Index.{Index}
use Rattle.mega_schema.specs.declared.schema.Schema.{Schema}
use Rattle.mega_keys.specs.Spelling.{spell_all}
use Rattle.mega_keys.specs.Fit.{misplaced}
use Rattle.mega_index.specs.declared.found.Found.{Found}
use Rattle.mega_row_writes.specs.Rows.{Listed}
use Rattle.mega_index.specs.Fits.{numbered, prefix_of}
use Rattle.mega_index.specs.Entries.{index_of}

-- the kind of a property that is known
abbrev pub kind_of : Option Property → List Kind
kind_of None = []
kind_of (Some p) = p.kind ∷ []

abbrev pub kinds_in : Option Table → List ℕ → List Kind
kinds_in None numbers = []
kinds_in (Some t) numbers = flat_map (λ n. kind_of (numbered t.properties n)) numbers

-- the kinds of the properties that an index is over, in their order
abbrev pub indexed_kinds : Schema → Index → List Kind
indexed_kinds s x = kinds_in (numbered s.tables x.table) x.indexed

-- what the keys of the entries of these first values begin with
abbrev pub front_of : ℕ → Index → List ℕ → List Value → List ℕ
front_of number x group values = prefix_of x group ++ (127 + number) ∷ spell_all values

-- the entries whose keys begin so, in order of key
abbrev pub begun_by : List ℕ → List (List ℕ × Found) → List Found
begun_by front entries = map (λ (e : List ℕ × Found). e.1) (filter (λ (e : List ℕ × Found). starts_with nat_eq e.0 front) entries)

-- the first value that has another kind than its property, or no property; else what is found
abbrev pub unless_misplaced : Option ℕ → List Found → Result (List Found) ℕ
unless_misplaced None found = Ok found
unless_misplaced (Some place) found = Err place

-- what is found over rows of the entries that begin with these values; the group is that of a local index
abbrev pub found_in : Schema → ℕ → Index → List ℕ → List Value → Listed → Result (List Found) ℕ
found_in s number x group values rows =
    unless_misplaced (misplaced (indexed_kinds s x) values 0) (begun_by (front_of number x group values) (index_of s number x rows))

-- the same in the index with this number, in which nothing is found where there is none
abbrev pub found_by : Schema → ℕ → Option Index → List ℕ → List Value → Listed → Result (List Found) ℕ
found_by s number None group values rows = Ok []
found_by s number (Some x) group values rows = found_in s number x group values rows

abbrev pub found_over : Schema → ℕ → List ℕ → List Value → Listed → Result (List Found) ℕ
found_over s number group values rows = found_by s number (numbered s.indexes number) group values rows
