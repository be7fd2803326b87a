-- What statements declare.
use Rattle.std.specs.Prelude.{ℕ, ◌+◌, min, Bool, false, List, [], ◌∷◌, ◌++◌, length, map, Option, Some, None, unwrap_or, position, slice_get, slice_set}
use Rattle.std.specs.List.{list_any}
use Rattle.mega_base.specs.declared.values.Kind.TheVariants.{Int32}
use Rattle.mega_schema.specs.declared.schema.Property.{Property}
use Rattle.mega_schema.specs.declared.schema.Table.{Table}
use Rattle.mega_schema.specs.declared.schema.Index.{Index}
use Rattle.mega_schema.specs.declared.schema.Schema.{Schema}
use Rattle.mega_syntax.specs.declared.words.PropertyWords.{PropertyWords}
use Rattle.mega_syntax.specs.declared.words.Clause.{Clause}
use Rattle.mega_syntax.specs.declared.words.TableWords.{TableWords}
use Rattle.mega_syntax.specs.declared.words.IndexWords.{IndexWords}
use Rattle.mega_syntax.specs.declared.words.Statement.{Statement}
use Rattle.mega_syntax.specs.declared.words.Statement.TheVariants as statements
use Rattle.mega_syntax.specs.Names.{same}
use Rattle.mega_syntax.specs.Reading.{is_scatter, is_inside}
use Rattle.mega_schema.specs.Lookup.{kind_of, property_place, table_named, table_place, group_of}
use Rattle.mega_schema.specs.Rules.{properties_of}

-- the number of what stands at this place, from 1; 0 for none. No schema has a place above 63
abbrev pub number_of : Option ℕ → ℕ
number_of None = 0
number_of (Some place) = min (place + 1) 255

abbrev pub property_of : PropertyWords → Property
property_of p = record { name = p.name; need = p.need; kind = unwrap_or (kind_of p.kind) Int32 }

abbrev pub words_place : List PropertyWords → List ℕ → Option ℕ
words_place ps n = position (λ p. same p.name n) ps

-- the numbers of properties, by their names
abbrev pub numbers_of_words : List PropertyWords → List (List ℕ) → List ℕ
numbers_of_words ps ns = map (λ n. number_of (words_place ps n)) ns

abbrev pub numbers_of : List Property → List (List ℕ) → List ℕ
numbers_of ps ns = map (λ n. number_of (property_place ps n)) ns

-- the root's number: its own, or that of the table referred to
abbrev pub root_number : Schema → Option (List (List ℕ) × List ℕ) → ℕ
root_number s None = number_of (Some (length s.tables))
root_number s (Some g) = number_of (table_place s.tables g.1)

abbrev pub group_numbers : List PropertyWords → Option (List (List ℕ) × List ℕ) → List ℕ
group_numbers ps None = []
group_numbers ps (Some g) = numbers_of_words ps g.0

-- whether the table's groups are scattered: a child's are where its root's are
abbrev pub is_scattered : Option Table → Bool
is_scattered None = false
is_scattered (Some r) = r.scatter

abbrev pub scatters : Schema → List Clause → Option (List (List ℕ) × List ℕ) → Bool
scatters s cs None = list_any is_scatter cs
scatters s cs (Some g) = is_scattered (table_named s.tables g.1)

abbrev pub table_of : Schema → TableWords → Table
table_of s t =
    let group = group_of t.clauses in
    record {
      name = t.name;
      properties = map property_of t.properties;
      primary = numbers_of_words t.properties t.primary;
      root = root_number s group;
      group = group_numbers t.properties group;
      inside = list_any is_inside t.clauses;
      scatter = scatters s t.clauses group;
    }

abbrev pub index_of : Schema → IndexWords → Index
index_of s i =
    let properties = properties_of s i.table in
    record {
      name = i.name;
      global = i.global;
      table = number_of (table_place s.tables i.table);
      indexed = numbers_of properties i.indexed;
      storing = numbers_of properties (unwrap_or i.storing []);
    }

-- the table with more properties behind its own
abbrev pub grown : Table → List PropertyWords → Table
grown t ps = record t { properties = t.properties ++ map property_of ps }

abbrev pub grown_with : List Table → List PropertyWords → ℕ → Option Table → List Table
grown_with ts ps i None = ts
grown_with ts ps i (Some t) = slice_set ts i (grown t ps)

-- the tables with more properties behind those of the one at a place
abbrev pub grown_at : List Table → List PropertyWords → Option ℕ → List Table
grown_at ts ps None = ts
grown_at ts ps (Some i) = grown_with ts ps i (slice_get ts i)

abbrev pub declare : Schema → Statement → Schema
declare s (statements.Table t) = record s { tables = s.tables ++ table_of s t ∷ [] }
declare s (statements.Index i) = record s { indexes = s.indexes ++ index_of s i ∷ [] }
declare s (statements.Change c) = record s { tables = grown_at s.tables c.properties (table_place s.tables c.table) }
