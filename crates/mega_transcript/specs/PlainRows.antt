-- Plain rows, finds, marks and results: those that are read back from their JSON.
use Rattle.std.specs.Prelude.{◌≡◌, ℕ, ◌<◌, ◌==◌, ◌&&◌, ◌||◌, Bool, true, nat_lt, List, [], ◌∷◌, length, Option, Some, None, Result, Ok, Err}
use Rattle.std.specs.List.{AllByRecursion}
use Rattle.std.specs.Ordering.{nat_cmp, is_lt}
use Rattle.std.specs.Cmp.Lexicographic.{slice_cmp}
use Rattle.hex.specs.Hex.{IsBytes}
use Rattle.mega_base.specs.declared.values.Kind.{Kind}
use Rattle.mega_base.specs.declared.values.Value.{Value}
use Rattle.mega_base.specs.declared.values.Value.TheVariants.{Raw}
use Rattle.mega_base.specs.declared.values.Cell.{Cell}
use Rattle.mega_keys.specs.Fit.{has_kind, key_kinds, IsValue}
use Rattle.mega_schema.specs.declared.schema.Property.{Property}
use Rattle.mega_schema.specs.declared.schema.Table.{Table}
use Rattle.mega_schema.specs.declared.schema.Schema.{Schema}
use Rattle.mega_schema.specs.Lookup.{property_at}
use Rattle.mega_schema.specs.Shaping.{table_at, shape_of}
use Rattle.mega_outcome.specs.of_index.declared.found.Found.{Found}
use Rattle.mega_outcome.specs.declared.answer.Shown.{Shown}
use Rattle.mega_outcome.specs.declared.answer.Mark.{Mark}
use Rattle.mega_outcome.specs.declared.answer.Turn.{Turn}
use Rattle.mega_transcript.specs.Rows.{fits_property}
use Rattle.mega_transcript.specs.Named.{names_table, names_property}
use Rattle.mega_transcript.specs.PlainNames.{IsGroup, IsPosition}
use Rattle.mega_transcript.specs.PlainTurns.{IsPlainTurn}

-- a value that its type holds
abbrev pub IsHeld : Value → Type 0
IsHeld (Raw bytes) = IsBytes bytes
IsHeld value = IsValue value

-- ---- rows

-- the cell's property is known, and named by its name; the values are of its kind, and as many as it may have
abbrev pub IsPlainCell : List Property → Option Property → Cell → Type 0
IsPlainCell all None cell = ⊥
IsPlainCell all (Some property) cell =
    (names_property all cell.property property.name ≡ true) × ((fits_property property cell.values ≡ true) × AllByRecursion IsHeld cell.values)

-- the numbers of the cells rise from above low, and each is plain
abbrev pub ArePlainCells : List Property → ℕ → List Cell → Type 0
ArePlainCells all low [] = Unit {0}
ArePlainCells all low (cell ∷ cells) = (low < cell.property) × (IsPlainCell all (property_at all cell.property) cell × ArePlainCells all cell.property cells)

-- the cells fit the table with this number, which is named by its name
abbrev pub ArePlainIn : Schema → ℕ → Option Table → List Cell → Type 0
ArePlainIn schema n None cells = ⊥
ArePlainIn schema n (Some table) cells = (names_table schema.tables n table.name ≡ true) × ArePlainCells table.properties 0 cells

abbrev pub IsPlainShown : Schema → Option Shown → Type 0
IsPlainShown schema None = Unit {0}
IsPlainShown schema (Some shown) = ArePlainIn schema shown.table (table_at schema.tables shown.table) (shown.row).cells

abbrev pub ArePlainRows : Schema → List (Option Shown) → Type 0
ArePlainRows schema rows = AllByRecursion (IsPlainShown schema) rows

-- ---- finds

-- one value for each place, of its kind
abbrev pub HaveKinds : List Kind → List Value → Type 0
HaveKinds [] [] = Unit {0}
HaveKinds (kind ∷ kinds) (value ∷ values) = (has_kind kind value ≡ true) × (IsHeld value × HaveKinds kinds values)
HaveKinds _ _ = ⊥

abbrev pub IsPlainKey : Schema → ℕ → Option Table → List Value → Type 0
IsPlainKey schema n None key = ⊥
IsPlainKey schema n (Some table) key = HaveKinds (key_kinds (shape_of schema n table)) key

-- the key is one of the table, and the stored properties fit it
abbrev pub IsPlainFound : Schema → Found → Type 0
IsPlainFound schema found =
    ArePlainIn schema found.table (table_at schema.tables found.table) (found.stored).cells × IsPlainKey schema found.table (table_at schema.tables found.table) found.key

abbrev pub ArePlainFinds : Schema → List Found → Type 0
ArePlainFinds schema finds = AllByRecursion (IsPlainFound schema) finds

-- ---- marks

abbrev pub IsHeldMark : Mark → Type 0
IsHeldMark mark = IsGroup mark.group × IsPosition mark.position

abbrev pub AreHeldMarks : List Mark → Type 0
AreHeldMarks marks = AllByRecursion IsHeldMark marks

-- the mark has a position of at least 1, and its group is above that of the mark before
abbrev pub follows : Option Mark → Mark → Bool
follows None mark = nat_lt 0 (mark.position).0
follows (Some before) mark = nat_lt 0 (mark.position).0 && is_lt (slice_cmp nat_cmp (before.group).key (mark.group).key)

-- the marks stand in ascending order of group, behind this one
abbrev pub are_marks_behind : Option Mark → List Mark → Bool
are_marks_behind before [] = true
are_marks_behind before (mark ∷ marks) = follows before mark && are_marks_behind (Some mark) marks

abbrev pub are_marks : List Mark → Bool
are_marks marks = are_marks_behind None marks

-- one mark alone, as that of a local find
abbrev pub is_alone : List Mark → Bool
is_alone marks = length marks == 1

abbrev pub ArePlainMarks : List Mark → Type 0
ArePlainMarks marks = (are_marks marks ≡ true) × AreHeldMarks marks

abbrev pub ArePlainFindMarks : List Mark → Type 0
ArePlainFindMarks marks = ((are_marks marks || is_alone marks) ≡ true) × AreHeldMarks marks

-- ---- results of a batch

abbrev pub IsPlainResult : Schema → Result (List (Option Shown)) Turn → Type 0
IsPlainResult schema (Ok replies) = ArePlainRows schema replies
IsPlainResult schema (Err turn) = IsPlainTurn turn

abbrev pub ArePlainResults : Schema → List (Result (List (Option Shown)) Turn) → Type 0
ArePlainResults schema results = AllByRecursion (IsPlainResult schema) results
