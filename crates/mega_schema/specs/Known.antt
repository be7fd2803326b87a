-- The names in a schema.
use Rattle.std.specs.Prelude.{ℕ, List, ◌++◌, map, Option, Some, None, slice_get, slice_set}
use Rattle.mega_schema.specs.declared.schema.Table.{Table}
use Rattle.mega_schema.specs.declared.schema.Index.{Index}
use Rattle.mega_schema.specs.Rules.{property_names}

abbrev pub table_names : List Table → List (List ℕ)
table_names ts = map (λ t. t.name) ts

-- of each table the names of its properties
abbrev pub names_in_tables : List Table → List (List (List ℕ))
names_in_tables ts = map (λ t. property_names t.properties) ts

abbrev pub index_names : List Index → List (List ℕ)
index_names xs = map (λ x. x.name) xs

abbrev pub extended_with : List (List (List ℕ)) → List (List ℕ) → ℕ → Option (List (List ℕ)) → List (List (List ℕ))
extended_with ls more i None = ls
extended_with ls more i (Some l) = slice_set ls i (l ++ more)

-- the lists with more names behind those at a place
abbrev pub extended_at : List (List (List ℕ)) → List (List ℕ) → Option ℕ → List (List (List ℕ))
extended_at ls more None = ls
extended_at ls more (Some i) = extended_with ls more i (slice_get ls i)
