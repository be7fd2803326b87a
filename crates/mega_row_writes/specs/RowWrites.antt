-- The writes that turn one list of rows into another.
use Rattle.std.specs.Prelude.{◌≡◌, ℕ, if◌then◌else◌, Bool, false, List, [], ◌∷◌, ◌++◌, is_none, Option, Some, None}
use Rattle.std.specs.List.{flat_map}
use Rattle.mega_base.specs.declared.values.Row.{Row}
use Rattle.mega_entry.specs.declared.content.Write.{Write}
use Rattle.mega_row_writes.specs.Rows.{Listed, row_under}
use Rattle.mega_entry.specs.Same.{same_row}

-- no key stands twice
abbrev pub Apart : Listed → Type 0
Apart [] = Unit {0}
Apart (e ∷ es) = (row_under es e.0 ≡ None) × Apart es

-- the entry is the one that stands there
abbrev pub is_row : Option Row → Row → Bool
is_row None row = false
is_row (Some old) row = same_row old row

-- the deletion of an entry that is gone
abbrev pub gone_one : Listed → List ℕ × Row → List Write
gone_one new e = if is_none (row_under new e.0) then record { key = e.0; row = None } ∷ [] else []

abbrev pub gone : Listed → Listed → List Write
gone new listed = flat_map (gone_one new) listed

-- the write of an entry that is new or changed
abbrev pub fresh_one : Listed → List ℕ × Row → List Write
fresh_one old e = if is_row (row_under old e.0) e.1 then [] else record { key = e.0; row = Some e.1 } ∷ []

abbrev pub fresh : Listed → Listed → List Write
fresh old listed = flat_map (fresh_one old) listed

-- deletions of entries that are gone, then entries that are new or changed, each in order of key
abbrev pub turned : Listed → Listed → List Write
turned old new = gone new old ++ fresh old new
