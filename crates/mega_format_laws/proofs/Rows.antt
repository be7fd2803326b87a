-- Rows that have texts: those that entries leave, those of index entries, and those that changes make.
use Rattle.std.proofs.Common.{◌≡◌, ℕ, suc, ◌+◌, ◌==◌, ◌<◌, ◌≤◌, Bool, true, false, cond, List, [], ◌∷◌, length, map, Option, Some, None, arith}
use Rattle.std.specs.Prelude.{filter, nat_lt, is_none, ℤ, pos, negsuc, ◌^◌, FitsSigned}
use Rattle.std.specs.Int.{w32, w64}
use Rattle.std.specs.Map.{remove_entry}
use Rattle.std.specs.BTreeMap.{insert_entry}
use Rattle.std.specs.Ordering.{match_ordering}
use Rattle.std.specs.declared.cmp.Ordering.{Ordering}
use Rattle.std.specs.declared.cmp.Ordering.TheVariants.{Less, Equal, Greater}
use Rattle.std.proofs.lemmas.Bool.Decides.{nat_tests}
use Rattle.mega_base.specs.Codec.{IsOption}
use Rattle.mega_base.specs.declared.values.Cell.{Cell}
use Rattle.mega_base.specs.declared.values.Row.{Row}
use Rattle.mega_base.specs.declared.values.Value.{Value}
use Rattle.mega_entry.specs.declared.content.Content.{Content}
use Rattle.mega_entry.specs.declared.content.Write.{Write}
use Rattle.mega_entry.specs.Entries.{IsWrite}
use Rattle.mega_schema.specs.declared.schema.Index.{Index}
use Rattle.mega_schema.specs.declared.schema.Schema.{Schema}
use Rattle.mega_schema.specs.declared.schema.Table.{Table}
use Rattle.mega_index.specs.Cells.{cell_set, is_listed, key_values, row_set, row_with}
use Rattle.mega_index.specs.Entries.{local_entries, local_in, placed, with_local}
use Rattle.mega_index.specs.Fits.{entry_keys, group_bytes_of, indexes_of, numbered, row_fits}
use Rattle.mega_index.specs.LocalWrites.{fresh, fresh_one, gone, gone_one, index_writes, index_writes_in, is_row}
use Rattle.mega_index.specs.Rows.{Listed, Rows, after, changed, key_cmp, list_after, list_changed, list_written, no_rows, row_under, same_key, written}
use Rattle.mega_format_laws.specs.Rounds.{Each, IsShort}
use Rattle.mega_format_laws.specs.Requests.{AreListed, IsRowed, IsSpelled, IsSpelledRow, Rises}
use Rattle.mega_format_laws.proofs.Spelling.{rowed_of}
use Rattle.mega_format_laws.proofs.Each.{each_both, each_of_all, each_weaker, either}

-- ---- rows as a function, and as a list

abbrev pub AreRows : Rows → Type 0
AreRows rows = (key : List ℕ) → IsOption IsSpelledRow (rows key)

pub none_rows : AreRows no_rows
none_rows key = tt

changed_rows : (rows : Rows) (write : Write) → AreRows rows → IsRowed write → AreRows (changed rows write)
changed_rows rows write h w key = either (IsOption IsSpelledRow) (same_key write.key key) write.row (rows key) w (h key)

pub written_rows : (writes : List Write) (rows : Rows) → Each IsRowed writes → AreRows rows → AreRows (written writes rows)
written_rows [] rows e h = h
written_rows (write ∷ writes) rows e h = written_rows writes (changed rows write) e.1 (changed_rows rows write h e.0)

pub writes_of : (entry : Content) → IsShort entry → Each IsRowed entry.writes
writes_of entry h = each_weaker IsWrite IsRowed (λ write w. rowed_of write.row w.1) entry.writes (each_of_all IsWrite entry.writes ((h.0).writes).each)

pub after_rows : (log : List Content) (rows : Rows) → Each IsShort log → AreRows rows → AreRows (after log rows)
after_rows [] rows e h = h
after_rows (entry ∷ log) rows e h = after_rows log (written entry.writes rows) e.1 (written_rows entry.writes rows (writes_of entry e.0) h)

insert_listed : (es : Listed) (k : List ℕ) (v : Row) → AreListed es → IsSpelledRow v → AreListed (insert_entry key_cmp es k v)
insert_listed [] k v h r = (r, tt)
insert_listed (e ∷ es) k v h r = go (key_cmp k e.0) (insert_listed es k v h.1 r)
  where
    go : (o : Ordering) → AreListed (insert_entry key_cmp es k v) → AreListed (match_ordering o ((k, v) ∷ e ∷ es) ((e.0, v) ∷ es) (e ∷ insert_entry key_cmp es k v))
    go Less m = (r, h)
    go Equal m = (r, h.1)
    go Greater m = (h.0, m)

remove_listed : (test : List ℕ → Bool) (es : Listed) → AreListed es → AreListed (remove_entry test es)
remove_listed test [] h = tt
remove_listed test (e ∷ es) h = either AreListed (test e.0) es (e ∷ remove_entry test es) h.1 (h.0, remove_listed test es h.1)

changed_listed : (listed : Listed) (key : List ℕ) (row : Option Row) → AreListed listed → IsOption IsSpelledRow row → AreListed (list_changed listed (record { key = key; row = row }))
changed_listed listed key None h w = remove_listed (λ other. same_key key other) listed h
changed_listed listed key (Some row) h w = insert_listed listed key row h w

list_writes : (writes : List Write) (listed : Listed) → Each IsRowed writes → AreListed listed → AreListed (list_written writes listed)
list_writes [] listed e h = h
list_writes (write ∷ writes) listed e h = list_writes writes (list_changed listed write) e.1 (changed_listed listed write.key write.row h e.0)

pub after_listed : (log : List Content) (listed : Listed) → Each IsShort log → AreListed listed → AreListed (list_after log listed)
after_listed [] listed e h = h
after_listed (entry ∷ log) listed e h = after_listed log (list_written entry.writes listed) e.1 (list_writes entry.writes listed (writes_of entry e.0) h)

pub under_rows : (listed : Listed) → AreListed listed → AreRows (row_under listed)
under_rows [] h key = tt
under_rows (e ∷ es) h key = either (IsOption IsSpelledRow) (same_key key e.0) (Some e.1) (row_under es key) h.0 (under_rows es h.1 key)

-- ---- some cells of a row

lower : (low least : ℕ) (cells : List Cell) → least ≤ low → Rises low cells → Rises least cells
lower low least [] le h = tt
lower low least (cell ∷ cells) le h = ((((let above = ((h.0).0).0 in omega (arith, le, above)), ((h.0).0).1), (h.0).1), h.1)

filtered : (test : Cell → Bool) (low : ℕ) (cells : List Cell) → Rises low cells → Rises low (filter test cells)
filtered test low [] h = tt
filtered test low (cell ∷ cells) h = either (Rises low) (test cell) (cell ∷ filter test cells) (filter test cells)
    (h.0, filtered test (cell.property + 1) cells h.1)
    (lower (cell.property + 1) low (filter test cells) (let above = ((h.0).0).0 in omega (arith, above)) (filtered test (cell.property + 1) cells h.1))

fewer : (test : Cell → Bool) (cells : List Cell) → length (filter test cells) ≤ length cells
fewer test [] = omega arith
fewer test (cell ∷ cells) = let le = fewer test cells in either (λ (l : List Cell). length l ≤ suc (length cells)) (test cell) (cell ∷ filter test cells) (filter test cells) (omega (arith, le)) (omega (arith, le))

pub with_row : (numbers : List ℕ) (row : Row) → IsSpelledRow row → IsSpelledRow (row_with numbers row)
with_row numbers row h = record {
  few = (let le = fewer (λ (c : Cell). is_listed numbers c.property) row.cells in let few = h.few in omega (arith, le, few));
  rising = filtered (λ (c : Cell). is_listed numbers c.property) 0 row.cells h.rising;
}

-- ---- another value of a row

one_value : (v : Value) → IsSpelled v → (1 ≤ length (v ∷ [])) × Each IsSpelled (v ∷ [])
one_value v h = (omega arith, (h, tt))

set_cells : (number : ℕ) (v : Value) (low : ℕ) (cells : List Cell) → IsSpelled v → Rises low cells → Rises low (map (cell_set number v) cells)
set_cells number v low [] i h = tt
set_cells number v low (c ∷ cs) i h = go (c.property == number) (set_cells number v (c.property + 1) cs i h.1)
  where
    go : (t : Bool) → Rises (c.property + 1) (map (cell_set number v) cs) → Rises low (cond t (record { property = c.property; values = v ∷ [] }) c ∷ map (cell_set number v) cs)
    go true k = (((h.0).0, one_value v i), k)
    go false k = (h.0, k)

same_length : (number : ℕ) (v : Value) (cells : List Cell) → length (map (cell_set number v) cells) ≤ length cells
same_length number v [] = omega arith
same_length number v (c ∷ cs) = let le = same_length number v cs in omega (arith, le)

pub set_row : (row : Row) (number : ℕ) (v : Value) → IsSpelledRow row → IsSpelled v → IsSpelledRow (row_set row number v)
set_row row number v h i = record {
  few = (let le = same_length number v row.cells in let few = h.few in omega (arith, le, few));
  rising = set_cells number v 0 row.cells i h.rising;
}

pub below : (n half : ℕ) → nat_lt n half ≡ true → n < half
below n half e = grind (arith, nat_tests)

abbrev is_within : ℕ → ℤ → Bool
is_within half (pos n) = nat_lt n half
is_within half (negsuc n) = nat_lt n half

pub fits_32 : (z : ℤ) → is_within (2 ^ 31) z ≡ true → FitsSigned w32 z
fits_32 (pos n) e = record { sfits = below n (2 ^ 31) e }
fits_32 (negsuc n) e = record { sfits = below n (2 ^ 31) e }

pub fits_64 : (z : ℤ) → is_within (2 ^ 63) z ≡ true → FitsSigned w64 z
fits_64 (pos n) e = record { sfits = below n (2 ^ 63) e }
fits_64 (negsuc n) e = record { sfits = below n (2 ^ 63) e }

-- ---- the writes of local index entries

placed_listed : (entries : Listed) (value : Row) (keys : List (List ℕ)) → AreListed entries → IsSpelledRow value → AreListed (placed entries value keys)
placed_listed entries value [] h r = h
placed_listed entries value (key ∷ keys) h r = placed_listed (insert_entry key_cmp entries key value) value keys (insert_listed entries key value h r) r

local_listed : (number : ℕ) (xs : List Index) (n : ℕ) (group : List ℕ) (key : List Value) (row : Row) (entries : Listed) → IsSpelledRow row → AreListed entries → AreListed (local_in number xs n group key row entries)
local_listed number [] n group key row entries r h = h
local_listed number (x ∷ xs) n group key row entries r h = local_listed (number + 1) xs n group key row (with_local number x n group key row entries) r
    (either AreListed _ (placed entries (row_with x.storing row) (entry_keys number x group key row)) entries (placed_listed entries (row_with x.storing row) (entry_keys number x group key row) h (with_row x.storing row r)) h)

entries_listed : (s : Schema) (n : ℕ) (t : Table) (row : Option Row) → IsOption IsSpelledRow row → AreListed (local_entries s n t row)
entries_listed s n t None h = tt
entries_listed s n t (Some row) h = either AreListed (row_fits s n t row) (local_in 1 (indexes_of s) n (group_bytes_of s n t row) (key_values t.primary row) row []) []
    (local_listed 1 (indexes_of s) n (group_bytes_of s n t row) (key_values t.primary row) row [] h tt) tt

gone_rowed : (new old : Listed) → Each IsRowed (gone new old)
gone_rowed new [] = tt
gone_rowed new (e ∷ es) = each_both IsRowed (gone_one new e) (gone new es) (either (Each IsRowed) (is_none (row_under new e.0)) (record { key = e.0; row = None } ∷ []) [] (tt, tt) tt) (gone_rowed new es)

fresh_rowed : (old new : Listed) → AreListed new → Each IsRowed (fresh old new)
fresh_rowed old [] h = tt
fresh_rowed old (e ∷ es) h = each_both IsRowed (fresh_one old e) (fresh old es) (either (Each IsRowed) (is_row (row_under old e.0) e.1) [] (record { key = e.0; row = Some e.1 } ∷ []) tt (h.0, tt)) (fresh_rowed old es h.1)

index_rowed_in : (s : Schema) (n : ℕ) (t : Option Table) (old new : Option Row) → IsOption IsSpelledRow new → Each IsRowed (index_writes_in s n t old new)
index_rowed_in s n None old new h = tt
index_rowed_in s n (Some t) old new h = each_both IsRowed (gone (local_entries s n t new) (local_entries s n t old)) (fresh (local_entries s n t old) (local_entries s n t new))
    (gone_rowed (local_entries s n t new) (local_entries s n t old)) (fresh_rowed (local_entries s n t old) (local_entries s n t new) (entries_listed s n t new h))

pub index_rowed : (s : Schema) (n : ℕ) (old new : Option Row) → IsOption IsSpelledRow new → Each IsRowed (index_writes s n old new)
index_rowed s n old new h = index_rowed_in s n (numbered s.tables n) old new h
