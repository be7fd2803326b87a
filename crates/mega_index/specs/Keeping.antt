-- What the global indexes of a node hold.
use Rattle.std.specs.Prelude.{ℕ, ◌+◌, ◌-◌, ◌^◌, min, if◌then◌else◌, Bool, List, [], ◌∷◌, map, Option, Some, None}
use Rattle.std.specs.BTreeSet.{BTreeSet}
use Rattle.mega_base.specs.declared.values.Row.{Row}
use Rattle.mega_schema.specs.declared.schema.Index.{Index}
use Rattle.mega_schema.specs.declared.schema.Schema.{Schema}
use Rattle.mega_index.specs.declared.found.Found.{Found}
use Rattle.mega_index.specs.declared.held.Held.{Held}
use Rattle.mega_index.specs.declared.global.GlobalIndex.{GlobalIndex}
use Rattle.mega_row_writes.specs.of_entry.declared.content.Write.{Write}
use Rattle.mega_row_writes.specs.Rows.{Listed, list_written}
use Rattle.mega_index.specs.Marks.{Marked, Marks, held_rows}
use Rattle.mega_index.specs.Hints.{all_hinted}
use Rattle.mega_index.specs.Wanted.{rows_wanted}

abbrev pub marked_of : Held → Marked
marked_of held = record { position = held.position; rows = held_rows held.rows.entries }

abbrev pub marks_in : List (List ℕ × Held) → Marks
marks_in groups = map (λ (e : List ℕ × Held). (e.0, marked_of e.1)) groups

-- the marks of the groups, and their rows there
abbrev pub marks_of : GlobalIndex → Marks
marks_of index = marks_in index.groups.entries

-- the index was refreshed under this schema alone
abbrev pub is_kept_under : Schema → GlobalIndex → Bool
is_kept_under s index = all_hinted s index.hints (marks_of index)

-- the row under a key, where a place is there and holds one
abbrev pub rows_at : List ℕ → Option (Option Row) → Listed
rows_at key None = []
rows_at key (Some None) = []
rows_at key (Some (Some row)) = (key, row) ∷ []

-- the wanted rows of a group that is there
abbrev pub group_wanted : BTreeSet (List ℕ) → Option Held → Listed
group_wanted keys None = []
group_wanted keys (Some held) = rows_wanted keys (held_rows held.rows.entries)

-- what is found, without its keys
abbrev pub values_in : List (List ℕ × Found) → List Found
values_in entries = map (λ (e : List ℕ × Found). e.1) entries

-- a mark after so many entries, which made these writes
abbrev pub moved : ℕ → List Write → Marked → Marked
moved count writes m = record { position = min (m.position + count) (2 ^ 64 - 1); rows = list_written writes m.rows }

-- the index, if it is a global one
abbrev pub global_of : Option Index → Option Index
global_of None = None
global_of (Some x) = if x.global then Some x else None
