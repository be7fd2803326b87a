-- Rows by their keys, and what writes make of them.
use Rattle.std.specs.Prelude.{ℕ, Bool, cond, List, fold, Option, Some, None}
use Rattle.std.specs.Ordering.{is_eq, nat_cmp}
use Rattle.std.specs.declared.cmp.Ordering.{Ordering}
use Rattle.std.specs.Cmp.Lexicographic.{slice_cmp}
use Rattle.std.specs.Map.{lookup, remove_entry}
use Rattle.std.specs.BTreeMap.{insert_entry}
use Rattle.mega_base.specs.declared.values.Row.{Row}
use Rattle.mega_entry.specs.declared.content.Write.{Write}
use Rattle.mega_entry.specs.declared.content.Content.{Content}

-- the order of keys, by their bytes
abbrev pub key_cmp : List ℕ → List ℕ → Ordering
key_cmp a b = slice_cmp nat_cmp a b

-- two keys are one
abbrev pub same_key : List ℕ → List ℕ → Bool
same_key a b = is_eq (key_cmp a b)

-- the row under each key, where one is
abbrev pub Rows : Type 0
Rows = List ℕ → Option Row

-- no rows at all
abbrev pub no_rows : Rows
no_rows key = None

-- the rows after one write
abbrev pub changed : Rows → Write → Rows
changed rows write key = cond (same_key write.key key) write.row (rows key)

-- the rows after these writes, one after another
abbrev pub written : List Write → Rows → Rows
written writes rows = fold changed rows writes

-- the rows after the entries of a log, the oldest first
abbrev pub after : List Content → Rows → Rows
after log rows = fold (λ (rows : Rows) (entry : Content). written entry.writes rows) rows log

-- keys and their rows, in order of key
abbrev pub Listed : Type 0
Listed = List (List ℕ × Row)

-- the row under a key in such a list
abbrev pub row_under : Listed → Rows
row_under listed key = lookup (λ other. same_key key other) listed

-- the list after one write
abbrev pub list_changed : Listed → Write → Listed
list_changed listed write =
    elim write.row [ None ↦ remove_entry (λ other. same_key write.key other) listed | Some row ↦ insert_entry key_cmp listed write.key row ]

-- the list after these writes, one after another
abbrev pub list_written : List Write → Listed → Listed
list_written writes listed = fold list_changed listed writes

-- the list after the entries of a log, the oldest first
abbrev pub list_after : List Content → Listed → Listed
list_after log listed = fold (λ (listed : Listed) (entry : Content). list_written entry.writes listed) listed log
