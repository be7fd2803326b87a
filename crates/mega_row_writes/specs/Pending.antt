-- Rows with the writes that are pending.
use Rattle.std.specs.Prelude.{List, ℕ, Option, Some, None}
use Rattle.std.specs.BTreeMap.{BTreeMap, get}
use Rattle.mega_base.specs.declared.values.Row.{Row}
use Rattle.mega_row_writes.specs.Rows.{Rows, key_cmp}

-- rows and deletions that were written since
abbrev pub Pending : Type 0
Pending = BTreeMap (List ℕ) (Option Row)

abbrev pub or_row : Option (Option Row) → Option Row → Option Row
or_row None row = row
or_row (Some written) row = written

-- the rows with those that were written since
abbrev pub seen : Pending → Rows → Rows
seen pending rows key = or_row (get key_cmp pending key) (rows key)
