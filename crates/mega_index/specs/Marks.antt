-- What global indexes know of each group: a mark, and the rows there.
use Rattle.std.specs.Prelude.{ℕ, ◌+◌, ◌-◌, ◌^◌, min, Bool, List, [], ◌∷◌, ◌++◌, length, flat_map, if◌then◌else◌, option_map, Option, Some, None, Result, Ok}
use Rattle.std.specs.Option.{unwrap_or}
use Rattle.std.specs.List.{filter_map, list_any, list_all}
use Rattle.std.specs.Map.{lookup, keys_of}
use Rattle.std.specs.BTreeMap.{insert_entry}
use Rattle.mega_base.specs.declared.values.Value.{Value}
use Rattle.mega_base.specs.declared.values.Row.{Row}
use Rattle.mega_row_writes.specs.of_entry.declared.content.Write.{Write}
use Rattle.mega_row_writes.specs.of_entry.declared.content.Content.{Content}
use Rattle.mega_schema.specs.declared.schema.Index.{Index}
use Rattle.mega_schema.specs.declared.schema.Schema.{Schema}
use Rattle.mega_index.specs.declared.found.Found.{Found}
use Rattle.mega_row_writes.specs.Rows.{Listed, key_cmp, same_key, list_after}
use Rattle.mega_index.specs.Fits.{numbered, indexes_of}
use Rattle.mega_index.specs.Finding.{found_in}

-- a position of a group's log, and the rows there
pub record Marked : Type 0 where
  pub position : ℕ
  pub rows : Listed

-- the marks of groups, by their bytes, in order
abbrev pub Marks : Type 0
Marks = List (List ℕ × Marked)

-- a group that was never refreshed stands before its first entry
abbrev pub unmarked : Marked
unmarked = record { position = 0; rows = [] }

abbrev pub marked_in : Marks → List ℕ → Marked
marked_in marks group = unwrap_or (lookup (λ other. same_key group other) marks) unmarked

-- a mark after the entries that follow it; positions end at the greatest
abbrev pub advanced : List Content → Marked → Marked
advanced entries m = record { position = min (m.position + length entries) (2 ^ 64 - 1); rows = list_after entries m.rows }

-- the marks after a refresh of one group
abbrev pub refreshed : Marks → List ℕ → List Content → Marks
refreshed marks group entries = insert_entry key_cmp marks group (advanced entries (marked_in marks group))

-- the rows of all groups at their marks
abbrev pub rows_marked : Marks → Listed
rows_marked marks = flat_map (λ (m : List ℕ × Marked). m.1.rows) marks

-- what is found in the global index with this number; an index that is none, or is local, has nothing
abbrev pub global_found_in : Schema → ℕ → Option Index → List Value → Listed → Result (List Found) ℕ
global_found_in s number None values rows = Ok []
global_found_in s number (Some x) values rows = if x.global then found_in s number x [] values rows else Ok []

abbrev pub global_found : Schema → ℕ → List Value → Listed → Result (List Found) ℕ
global_found s number values rows = global_found_in s number (numbered (indexes_of s) number) values rows

-- a place that may hold a row, seen as what it holds
abbrev pub held_row : List ℕ × Option Row → Option (List ℕ × Row)
held_row e = option_map (λ (row : Row). (e.0, row)) e.1

abbrev pub held_rows : List (List ℕ × Option Row) → Listed
held_rows slots = filter_map held_row slots

-- the writes of entries, the oldest first
abbrev pub writes_of : List Content → List Write
writes_of [] = []
writes_of (entry ∷ log) = entry.writes ++ writes_of log

-- there is a place for the key
abbrev pub has_slot : List (List ℕ × Option Row) → List ℕ → Bool
has_slot slots key = list_any (same_key key) (keys_of slots)

abbrev pub have_slots : List (List ℕ × Option Row) → List Write → Bool
have_slots slots writes = list_all (λ (w : Write). has_slot slots w.key) writes
