-- A schema that grew: the same tables and indexes, with properties added that are not required.
use Rattle.std.specs.Prelude.{◌≡◌, ℕ, ◌+◌, Bool, true, false, List, [], ◌∷◌, ◌++◌, is_some, Option, Some, None, Ok}
use Rattle.std.specs.List.{list_all}
use Rattle.mega_base.specs.declared.values.Cell.{Cell}
use Rattle.mega_base.specs.declared.values.Row.{Row}
use Rattle.mega_index.specs.of_entry.declared.content.Write.{Write}
use Rattle.mega_index.specs.of_syntax.declared.need.Need.{Need}
use Rattle.mega_index.specs.of_syntax.declared.need.Need.TheVariants.{Required, Optional, Repeated}
use Rattle.mega_index.specs.of_schema.declared.schema.Property.{Property}
use Rattle.mega_index.specs.of_schema.declared.schema.Table.{Table}
use Rattle.mega_index.specs.of_schema.declared.schema.Schema.{Schema}
use Rattle.mega_index.specs.Rows.{Rows, written}
use Rattle.mega_index.specs.Fits.{numbered}
use Rattle.mega_outcome.specs.declared.transaction.Change.{Change}
use Rattle.mega_outcome.specs.declared.transaction.Change.TheVariants.{Put, Delete, Add}
use Rattle.mega_outcome.specs.Changes.{change}
use Rattle.mega_outcome.specs.Steps.{changed_key}

-- a row may have no value of such a property
abbrev pub may_lack_need : Need → Bool
may_lack_need Required = false
may_lack_need Optional = true
may_lack_need Repeated = true

abbrev pub may_lack : Property → Bool
may_lack p = may_lack_need p.need

-- the number is that of one of the properties
abbrev pub is_known : List Property → ℕ → Bool
is_known ps n = is_some (numbered ps n)

-- the table with properties behind its own, which are not required; its key is over its own
pub record ExtendsTable (old new : Table) : Type 0 where
  pub added : List Property
  pub properties : new.properties ≡ old.properties ++ added
  pub lacking : list_all may_lack added ≡ true
  pub keyed : list_all (is_known old.properties) old.primary ≡ true
  pub primary : new.primary ≡ old.primary
  pub root : new.root ≡ old.root
  pub group : new.group ≡ old.group
  pub inside : new.inside ≡ old.inside
  pub scatter : new.scatter ≡ old.scatter

abbrev pub ExtendTables : List Table → List Table → Type 0
ExtendTables [] [] = Unit {0}
ExtendTables [] (u ∷ us) = ⊥
ExtendTables (t ∷ ts) [] = ⊥
ExtendTables (t ∷ ts) (u ∷ us) = ExtendsTable t u × ExtendTables ts us

pub record Extends (old new : Schema) : Type 0 where
  pub tables : ExtendTables old.tables new.tables
  pub indexes : new.indexes ≡ old.indexes

-- the row has properties of the table alone
abbrev pub is_known_row : Table → Row → Bool
is_known_row t row = list_all (λ (c : Cell). is_known t.properties c.property) row.cells

-- the row, if one is there, has properties of the table alone, if there is one
abbrev pub known_in : Option Table → Option Row → Bool
known_in None row = true
known_in (Some t) None = true
known_in (Some t) (Some row) = is_known_row t row

-- the table that a change is about
abbrev pub changed_table : Change → ℕ
changed_table (Put n row) = n
changed_table (Delete row) = row.table
changed_table (Add row property by) = row.table

-- each row that changes look at, on what the earlier ones left, has properties of its table alone
abbrev pub LookAtKnown : Schema → List ℕ → Rows → ℕ → List Change → Type 0
LookAtKnown s group rows i [] = Unit {0}
LookAtKnown s group rows i (c ∷ cs) =
    ((key : List ℕ) → changed_key s group i c ≡ Ok key → known_in (numbered s.tables (changed_table c)) (rows key) ≡ true)
    × ((writes : List Write) → change s group rows i c ≡ Ok writes → LookAtKnown s group (written writes rows) (i + 1) cs)
