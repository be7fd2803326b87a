-- How the row keys of a table are spelled.
use Rattle.std.specs.Prelude.{ℕ, ◌||◌, List, [], length, drop, Option, Some, None, if◌then◌else◌}
use Rattle.std.specs.List.{flat_map}
use Rattle.std.specs.Option.{option_to_list}
use Rattle.mega_base.specs.declared.values.Kind.{Kind}
use Rattle.mega_base.specs.declared.values.Shape.{Shape}
pub use Rattle.mega_base.specs.ListWords.{numbered as table_at}
use Rattle.mega_schema.specs.declared.schema.Property.{Property}
use Rattle.mega_schema.specs.declared.schema.Table.{Table}
use Rattle.mega_schema.specs.declared.schema.Schema.{Schema}
use Rattle.mega_schema.specs.Lookup.{is_root_table}
use Rattle.mega_schema.specs.Rules.{kind_at}

-- the kinds of these properties
abbrev pub kinds_of : List Property → List ℕ → List Kind
kinds_of ps ns = flat_map (λ n. option_to_list (kind_at ps n)) ns

-- the kinds of a root's primary key
abbrev pub root_kinds : Option Table → List Kind
root_kinds None = []
root_kinds (Some r) = kinds_of r.properties r.primary

-- the kinds of the key values behind the root's
abbrev pub rest_kinds : Table → List Kind
rest_kinds t = if is_root_table t then [] else kinds_of t.properties (drop (length t.group) t.primary)

-- the table number that row keys begin with: the root's for a root and for a table inside it
abbrev pub space_of : ℕ → Table → ℕ
space_of n t = if is_root_table t || t.inside then t.root else n

abbrev pub shape_of : Schema → ℕ → Table → Shape
shape_of s n t = record {
  space = space_of n t;
  root = t.root;
  root_kinds = root_kinds (table_at s.tables t.root);
  table = n;
  rest_kinds = rest_kinds t;
  scatter = t.scatter;
}
