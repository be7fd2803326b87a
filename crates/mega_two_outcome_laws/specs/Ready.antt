-- What a schema that is declared has, of tables, names and keys; and that no local index stands over the tables of changes.
use Rattle.std.specs.Prelude.{◌≡◌, ℕ, ◌&&◌, ◌≤◌, Bool, true, false, List, length, nat_le, not, is_some, Some}
use Rattle.std.specs.List.{list_any, list_all}
use Rattle.mega_syntax.specs.Names.{is_name}
use Rattle.mega_schema.specs.declared.schema.Property.{Property}
use Rattle.mega_schema.specs.declared.schema.Table.{Table}
use Rattle.mega_schema.specs.declared.schema.Schema.{Schema}
use Rattle.mega_schema.specs.Lookup.{is_root_table, stands_twice}
use Rattle.mega_schema.specs.Rules.{property_names}
use Rattle.mega_index.specs.Fits.{numbered}
use Rattle.mega_two_driver.specs.Tables.{is_local_over}
use Rattle.mega_two_driver.specs.Fits.{transaction_of, transaction_fits}
use Rattle.mega_two_outcome_laws.specs.Places.{plans, locks, ends}

abbrev pub has_name : Property → Bool
has_name p = is_name p.name

-- at most 64 properties, names that are names of the language, and a key of its own properties
abbrev pub is_ready : Table → Bool
is_ready t =
    (nat_le (length t.properties) 64 && list_all (λ n. is_some (numbered t.properties n)) t.primary) && (is_name t.name && list_all has_name t.properties)

pub record IsReady (s : Schema) : Type 0 where
  pub few : length s.tables ≤ 64
  pub tables : list_all is_ready s.tables ≡ true
  -- a root is its own root
  pub roots : (n : ℕ) (t : Table) → numbered s.tables n ≡ Some t → is_root_table t ≡ true → t.root ≡ n
  pub plans_bare : list_any (is_local_over (plans s)) s.indexes ≡ false
  pub locks_bare : (group : List ℕ) → list_any (is_local_over (locks s group)) s.indexes ≡ false
  pub ends_bare : (group : List ℕ) → list_any (is_local_over (ends s group)) s.indexes ≡ false

-- no table has two properties of one name
abbrev pub has_names_once : Table → Bool
has_names_once t = not (stands_twice (property_names t.properties))

abbrev pub AreNamedOnce : Schema → Type 0
AreNamedOnce s = list_all has_names_once s.tables ≡ true

-- the writes of the transaction that a text asks fit its group
abbrev pub TextFits : Schema → List ℕ → Type 0
TextFits s text = transaction_fits s (transaction_of s text) ≡ true
