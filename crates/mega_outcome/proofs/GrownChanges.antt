-- What changes come to under a schema that grew.
use Rattle.std.proofs.Common.{◌≡◌, ◌∙◌, ap, sym, refl, ℕ, ◌+◌, Bool, true, false, List, [], ◌∷◌, ◌++◌, take, map}
use Rattle.std.specs.Prelude.{ℤ, Option, Some, None, Result, Ok, Err, IfOk, is_some, is_none, is_ok, ◌==◌, ◌&&◌, not, nat_lt, if◌then◌else◌}
use Rattle.std.specs.List.{list_all}
use Rattle.mega_base.specs.declared.values.Kind.{Kind}
use Rattle.mega_base.specs.declared.values.Shape.{Shape}
use Rattle.mega_base.specs.declared.values.Value.{Value}
use Rattle.mega_base.specs.declared.values.Cell.{Cell}
use Rattle.mega_base.specs.declared.values.Row.{Row}
use Rattle.mega_index.specs.of_entry.declared.content.Write.{Write}
use Rattle.mega_index.specs.of_syntax.declared.need.Need.{Need}
use Rattle.mega_index.specs.of_syntax.declared.need.Need.TheVariants.{Required, Optional, Repeated}
use Rattle.mega_index.specs.of_schema.declared.schema.Property.{Property}
use Rattle.mega_index.specs.of_schema.declared.schema.Table.{Table}
use Rattle.mega_index.specs.of_schema.declared.schema.Schema.{Schema}
use Rattle.mega_index.specs.of_schema.Shaping.{shape_of}
use Rattle.mega_index.specs.of_keys.declared.fault.KeyFault.{KeyFault}
use Rattle.mega_index.specs.of_keys.Spelling.{root_part}
use Rattle.mega_index.specs.of_keys.Answers.{row_key_of, group_key_of}
use Rattle.mega_index.specs.Rows.{Rows, written}
use Rattle.mega_index.specs.Cells.{values_of, key_values, is_listed, cell_set, row_set}
use Rattle.mega_index.specs.Fits.{numbered, cell_fits, cells_fit, is_filled, has_required, properties_fit, key_of, group_bytes_of, long_in, long_key, row_fits, fits_in, fits}
use Rattle.mega_index.specs.Entries.{local_in, local_entries}
use Rattle.mega_index.specs.LocalWrites.{turned, index_writes_in}
use Rattle.mega_outcome.specs.declared.answer.Turn.{Turn}
use Rattle.mega_outcome.specs.declared.answer.Turn.TheVariants.{BadRow}
use Rattle.mega_outcome.specs.declared.answer.Shown.{Shown}
use Rattle.mega_outcome.specs.declared.answer.Done.{Done}
use Rattle.mega_outcome.specs.declared.transaction.Change.{Change}
use Rattle.mega_outcome.specs.declared.transaction.Change.TheVariants.{Put, Delete, Add}
use Rattle.mega_outcome.specs.declared.transaction.Transaction.{Transaction}
use Rattle.mega_outcome.specs.Places.{◌>>=◌, key_in}
use Rattle.mega_outcome.specs.Checks.{all_checks}
use Rattle.mega_outcome.specs.Reads.{all_reads}
use Rattle.mega_outcome.specs.Changes.{replaced, delete_at, is_number, number_of, sum_of, add_to, add_in, add_at, change, all_changes}
use Rattle.mega_outcome.specs.Outcome.{first_read, first_change, first_send, longest, unless_large, outcome_in}
use Rattle.mega_outcome.specs.Steps.{put_key, put_at, changed_key, changed_to, done_with, written_by}
use Rattle.mega_outcome.specs.Extends.{may_lack, may_lack_need, is_known, is_known_row, known_in, changed_table, LookAtKnown, ExtendsTable, Extends}
use Rattle.mega_disk.specs.VersionMaps.{Versions, SameVersions}
use Rattle.mega_outcome.specs.Answers.{Gives}
use Rattle.mega_outcome.proofs.Items.{change_is}
use Rattle.mega_outcome.proofs.Grown.{both-true, numbered_more, is_grown, ExtendsAt, table_extends, shape_same, key_in_same, reads_same, then_ok, checks_same, sends_same}

cells_same : (ps more : List Property) (low : ℕ) (cs : List Cell) → list_all (λ (c : Cell). is_known ps c.property) cs ≡ true → cells_fit (ps ++ more) low cs ≡ cells_fit ps low cs
cells_same ps more low [] h = refl
cells_same ps more low (c ∷ cs) h =
    let both = both-true (is_known ps c.property) (list_all (λ (c : Cell). is_known ps c.property) cs) h in
    ap (λ (o : Option Property). nat_lt low c.property && (cell_fits o c.values && cells_fit (ps ++ more) c.property cs)) (numbered_more ps more c.property both.0)
    ∙ ap (λ (b : Bool). nat_lt low c.property && (cell_fits (numbered ps c.property) c.values && b)) (cells_same ps more c.property cs both.1)

cells_known : (ps : List Property) (low : ℕ) (cs : List Cell) → cells_fit ps low cs ≡ true → list_all (λ (c : Cell). is_known ps c.property) cs ≡ true
cells_known ps low [] h = refl
cells_known ps low (c ∷ cs) h =
    let behind = (both-true (nat_lt low c.property) (cell_fits (numbered ps c.property) c.values && cells_fit ps c.property cs) h).1 in
    let both = both-true (cell_fits (numbered ps c.property) c.values) (cells_fit ps c.property cs) behind in
    ap (λ (b : Bool). b && list_all (λ (c : Cell). is_known ps c.property) cs) (some (numbered ps c.property) both.0) ∙ cells_known ps c.property cs both.1
  where
    some : (o : Option Property) → cell_fits o c.values ≡ true → is_some o ≡ true
    some None h = cc
    some (Some p) h = refl

filled : (need : Need) (values : List Value) → may_lack_need need ≡ true → is_filled need values ≡ true
filled Required values h = cc
filled Optional values h = refl
filled Repeated values h = refl

none_required : (n : ℕ) (more : List Property) (row : Row) → list_all may_lack more ≡ true → has_required n more row ≡ true
none_required n [] row h = refl
none_required n (p ∷ more) row h =
    let both = both-true (may_lack p) (list_all may_lack more) h in
    ap (λ (b : Bool). b && has_required (n + 1) more row) (filled p.need (values_of row n) both.0) ∙ none_required (n + 1) more row both.1

required_same : (n : ℕ) (ps more : List Property) (row : Row) → list_all may_lack more ≡ true → has_required n (ps ++ more) row ≡ has_required n ps row
required_same n [] more row h = none_required n more row h
required_same n (p ∷ ps) more row h = ap (λ (b : Bool). is_filled p.need (values_of row n) && b) (required_same (n + 1) ps more row h)

bytes_in : Result (List ℕ) KeyFault → List ℕ
bytes_in (Ok bytes) = bytes
bytes_in (Err fault) = []

module _ (s new : Schema) (e : Extends s new) (n : ℕ) (t u : Table) (at : ExtendsTable t u) (row : Row) where
  properties_same : is_known_row t row ≡ true → properties_fit u row ≡ properties_fit t row
  properties_same known =
      ap (λ (u : Table). properties_fit u row) (is_grown t u at)
      ∙ ap (λ (b : Bool). b && has_required 1 (t.properties ++ at.added) row) (cells_same t.properties at.added 0 row.cells known)
      ∙ ap (λ (b : Bool). cells_fit t.properties 0 row.cells && b) (required_same 1 t.properties at.added row at.lacking)

  key_same : key_of new n u (key_values u.primary row) ≡ key_of s n t (key_values t.primary row)
  key_same =
      ap (λ (ns : List ℕ). key_of new n u (key_values ns row)) at.primary
      ∙ ap (λ (shape : Shape). row_key_of shape (key_values t.primary row)) (shape_same s new e n t u at)

  group_bytes_same : group_bytes_of new n u row ≡ group_bytes_of s n t row
  unfolding bytes_in
  group_bytes_same =
      ap (λ (ns : List ℕ). bytes_in (group_key_of (shape_of new n u) (root_part (shape_of new n u) (key_values ns row)))) at.primary
      ∙ ap (λ (shape : Shape). bytes_in (group_key_of shape (root_part shape (key_values t.primary row)))) (shape_same s new e n t u at)

  long_same : long_key new n u row ≡ long_key s n t row
  long_same i = long_in 1 (take 64 (e.indexes i)) n (group_bytes_same i) (key_values (at.primary i) row) row

  row_fits_same : is_known_row t row ≡ true → row_fits new n u row ≡ row_fits s n t row
  row_fits_same known i = (properties_same known i && is_ok (key_same i)) && is_none (long_same i)

  row_entries_same : is_known_row t row ≡ true → local_entries new n u (Some row) ≡ local_entries s n t (Some row)
  row_entries_same known i = if row_fits_same known i then local_in 1 (take 64 (e.indexes i)) n (group_bytes_same i) (key_values (at.primary i) row) row [] else []

entries_same : (s new : Schema) → Extends s new → (n : ℕ) (t u : Table) → ExtendsTable t u → (row : Option Row) → known_in (Some t) row ≡ true → local_entries new n u row ≡ local_entries s n t row
entries_same s new e n t u at None known = refl
entries_same s new e n t u at (Some row) known = row_entries_same s new e n t u at row known

writes_same : (s new : Schema) → Extends s new → (n : ℕ) (o p : Option Table) → ExtendsAt o p → (old row : Option Row) → known_in o old ≡ true → known_in o row ≡ true
    → index_writes_in new n p old row ≡ index_writes_in s n o old row
writes_same s new e n None None at old row known_old known = refl
writes_same s new e n None (Some u) at old row known_old known = absurd at
writes_same s new e n (Some t) None at old row known_old known = absurd at
writes_same s new e n (Some t) (Some u) at old row known_old known = λ i. turned (entries_same s new e n t u at old known_old i) (entries_same s new e n t u at row known i)

replaced_same : (s new : Schema) → Extends s new → (n : ℕ) (key : List ℕ) (old row : Option Row) → known_in (numbered s.tables n) old ≡ true → known_in (numbered s.tables n) row ≡ true
    → replaced new n key old row ≡ replaced s n key old row
replaced_same s new e n key old row known_old known =
    ap (λ (ws : List Write). record { key = key; row = row } ∷ ws) (writes_same s new e n (numbered s.tables n) (numbered new.tables n) (table_extends s new e n) old row known_old known)

fits_same : (s new : Schema) → Extends s new → (n : ℕ) (o p : Option Table) → ExtendsAt o p → (row : Row) → known_in o (Some row) ≡ true → fits_in new n p row ≡ fits_in s n o row
fits_same s new e n None None at row known = refl
fits_same s new e n None (Some u) at row known = absurd at
fits_same s new e n (Some t) None at row known = absurd at
fits_same s new e n (Some t) (Some u) at row known = row_fits_same s new e n t u at row known

fits_known : (s : Schema) (n : ℕ) (o : Option Table) (row : Row) → fits_in s n o row ≡ true → known_in o (Some row) ≡ true
fits_known s n None row h = refl
fits_known s n (Some t) row h =
    let placed = (both-true (properties_fit t row && is_ok (key_of s n t (key_values t.primary row))) (is_none (long_key s n t row)) h).0 in
    let properties = (both-true (properties_fit t row) (is_ok (key_of s n t (key_values t.primary row))) placed).0 in
    cells_known t.properties 0 row.cells (both-true (cells_fit t.properties 0 row.cells) (has_required 1 t.properties row) properties).0

known_none : (o : Option Table) → known_in o None ≡ true
known_none None = refl
known_none (Some t) = refl

put_same : (s new : Schema) → Extends s new → (i n : ℕ) (row : Row) (key : List ℕ) (old : Option Row) (ws : List Write) → known_in (numbered s.tables n) old ≡ true
    → put_at s i n row key old ≡ Ok ws → put_at new i n row key old ≡ Ok ws
put_same s new e i n row key old ws known_old h = by (fits s n row) refl
  where
    by : (b : Bool) → fits s n row ≡ b → put_at new i n row key old ≡ Ok ws
    by true is =
        let known = fits_known s n (numbered s.tables n) row is in
        ap (λ (b : Bool). if b then Ok (replaced new n key old (Some row)) else Err (BadRow i)) (fits_same s new e n (numbered s.tables n) (numbered new.tables n) (table_extends s new e n) row known ∙ is)
        ∙ ap Ok (replaced_same s new e n key old (Some row) known_old known)
        ∙ sym (ap (λ (b : Bool). if b then Ok (replaced s n key old (Some row)) else Err (BadRow i)) is) ∙ h
    by false is = absurd (refused (sym (ap (λ (b : Bool). if b then Ok (replaced s n key old (Some row)) else Err (BadRow i)) is) ∙ h))
      where
        refused : Err (BadRow i) ≡ Ok ws → ⊥
        refused e = cc

delete_same : (s new : Schema) → Extends s new → (i n : ℕ) (key : List ℕ) (old : Option Row) (ws : List Write) → known_in (numbered s.tables n) old ≡ true
    → delete_at s i n key old ≡ Ok ws → delete_at new i n key old ≡ Ok ws
delete_same s new e i n key None ws known h = cc
delete_same s new e i n key (Some row) ws known h = ap Ok (replaced_same s new e n key (Some row) None known (known_none (numbered s.tables n))) ∙ h

cell_kept : (number : ℕ) (v : Value) (c : Cell) → (cell_set number v c).property ≡ c.property
cell_kept number v c = by (c.property == number)
  where
    by : (b : Bool) → (if b then record { property = c.property; values = v ∷ [] } else c).property ≡ c.property
    by true = refl
    by false = refl

cells_kept : (ps : List Property) (number : ℕ) (v : Value) (cs : List Cell) → list_all (λ (c : Cell). is_known ps c.property) (map (cell_set number v) cs) ≡ list_all (λ (c : Cell). is_known ps c.property) cs
cells_kept ps number v [] = refl
cells_kept ps number v (c ∷ cs) =
    ap (λ (m : ℕ). is_known ps m && list_all (λ (c : Cell). is_known ps c.property) (map (cell_set number v) cs)) (cell_kept number v c)
    ∙ ap (λ (b : Bool). is_known ps c.property && b) (cells_kept ps number v cs)

known_set : (o : Option Table) (row : Row) (number : ℕ) (v : Value) → known_in o (Some row) ≡ true → known_in o (Some (row_set row number v)) ≡ true
known_set None row number v h = refl
known_set (Some t) row number v h = cells_kept t.properties number v row.cells ∙ h

add_to_same : (s new : Schema) → Extends s new → (i n : ℕ) (t u : Table) → ExtendsTable t u → (key : List ℕ) (property : ℕ) (kind : Kind) (old : Option Row) (by : ℤ) → known_in (numbered s.tables n) old ≡ true
    → add_to new i n u key property kind old by ≡ add_to s i n t key property kind old by
add_to_same s new e i n t u at key property kind None by known = refl
add_to_same s new e i n t u at key property kind (Some row) by known =
    ap (λ (long : Option ℕ). sum_of i kind (number_of kind (values_of row property)) (is_some long) by >>= λ v. Ok (replaced new n key (Some row) (Some (row_set row property v)))) (long_same s new e n t u at row)
    ∙ summed (sum_of i kind (number_of kind (values_of row property)) (is_some (long_key s n t row)) by)
  where
    summed : (m : Result Value Turn) → (m >>= λ v. Ok (replaced new n key (Some row) (Some (row_set row property v)))) ≡ (m >>= λ v. Ok (replaced s n key (Some row) (Some (row_set row property v))))
    summed (Ok v) = ap Ok (replaced_same s new e n key (Some row) (Some (row_set row property v)) known (known_set (numbered s.tables n) row property v known))
    summed (Err turn) = refl

add_in_same : (s new : Schema) → Extends s new → (i n : ℕ) (t u : Table) → ExtendsTable t u → (key : List ℕ) (property : ℕ) (p : Option Property) (old : Option Row) (by : ℤ) → known_in (numbered s.tables n) old ≡ true
    → add_in new i n u key property p old by ≡ add_in s i n t key property p old by
add_in_same s new e i n t u at key property None old by known = refl
add_in_same s new e i n t u at key property (Some p) old by known = λ j.
    if is_number p.kind p.need && not (is_listed (at.primary j) property) then add_to_same s new e i n t u at key property p.kind old by known j else Err (BadRow i)

add_same_at : (s new : Schema) → Extends s new → (i n : ℕ) (o p : Option Table) → ExtendsAt o p → (key : List ℕ) (property : ℕ) (old : Option Row) (by : ℤ) (ws : List Write) → known_in (numbered s.tables n) old ≡ true
    → add_at s i n o key property old by ≡ Ok ws → add_at new i n p key property old by ≡ Ok ws
add_same_at s new e i n None p at key property old by ws known h = cc
add_same_at s new e i n (Some t) None at key property old by ws known h = absurd at
add_same_at s new e i n (Some t) (Some u) at key property old by ws known h =
    ap (λ (ps : List Property). add_in new i n u key property (numbered ps property) old by) at.properties
    ∙ ap (λ (p : Option Property). add_in new i n u key property p old by) (numbered_more t.properties at.added property (some (numbered t.properties property) h))
    ∙ add_in_same s new e i n t u at key property (numbered t.properties property) old by known
    ∙ h
  where
    some : (p : Option Property) → add_in s i n t key property p old by ≡ Ok ws → is_some p ≡ true
    some None h = cc
    some (Some p) h = refl

changed_to_same : (s new : Schema) → Extends s new → (i : ℕ) (c : Change) (key : List ℕ) (old : Option Row) (ws : List Write) → known_in (numbered s.tables (changed_table c)) old ≡ true
    → changed_to s i c key old ≡ Ok ws → changed_to new i c key old ≡ Ok ws
changed_to_same s new e i (Put n row) key old ws known h = put_same s new e i n row key old ws known h
changed_to_same s new e i (Delete row) key old ws known h = delete_same s new e i row.table key old ws known h
changed_to_same s new e i (Add row property by) key old ws known h =
    add_same_at s new e i row.table (numbered s.tables row.table) (numbered new.tables row.table) (table_extends s new e row.table) key property old by ws known h

put_key_same : (s new : Schema) → Extends s new → (group : List ℕ) (i n : ℕ) (o p : Option Table) → ExtendsAt o p → (row : Row) → put_key new group i n p row ≡ put_key s group i n o row
put_key_same s new e group i n None None at row = refl
put_key_same s new e group i n None (Some u) at row = absurd at
put_key_same s new e group i n (Some t) None at row = absurd at
put_key_same s new e group i n (Some t) (Some u) at row =
    ap (λ (ns : List ℕ). key_in new group i n (key_values ns row)) at.primary ∙ key_in_same s new e group i n (key_values t.primary row)

changed_key_same : (s new : Schema) → Extends s new → (group : List ℕ) (i : ℕ) (c : Change) → changed_key new group i c ≡ changed_key s group i c
changed_key_same s new e group i (Put n row) = put_key_same s new e group i n (numbered s.tables n) (numbered new.tables n) (table_extends s new e n) row
changed_key_same s new e group i (Delete row) = key_in_same s new e group i row.table row.key
changed_key_same s new e group i (Add row property by) = key_in_same s new e group i row.table row.key

change_same : (s new : Schema) → Extends s new → (group : List ℕ) (rows : Rows) (i : ℕ) (c : Change) (ws : List Write)
    → ((key : List ℕ) → changed_key s group i c ≡ Ok key → known_in (numbered s.tables (changed_table c)) (rows key) ≡ true)
    → change s group rows i c ≡ Ok ws → change new group rows i c ≡ Ok ws
change_same s new e group rows i c ws known h =
    let was = then_ok (changed_key s group i c) (λ key. changed_to s i c key (rows key)) ws (sym (change_is s group rows i c) ∙ h) in
    change_is new group rows i c
    ∙ ap (λ (m : Result (List ℕ) Turn). m >>= λ key. changed_to new i c key (rows key)) (changed_key_same s new e group i c ∙ was.1)
    ∙ changed_to_same s new e i c was.0 (rows was.0) ws (known was.0 was.1) was.2

changes_same : (s new : Schema) → Extends s new → (group : List ℕ) (rows : Rows) (i : ℕ) (cs : List Change) (ws : List Write) → LookAtKnown s group rows i cs
    → all_changes s group rows i cs ≡ Ok ws → all_changes new group rows i cs ≡ Ok ws
changes_same s new e group rows i [] ws known h = h
changes_same s new e group rows i (c ∷ cs) ws known h =
    let first = then_ok (change s group rows i c) (λ writes. all_changes s group (written writes rows) (i + 1) cs >>= λ others. Ok (writes ++ others)) ws h in
    let others = then_ok (all_changes s group (written first.0 rows) (i + 1) cs) (λ others. Ok (first.0 ++ others)) ws first.2 in
    ap (λ (m : Result (List Write) Turn). m >>= λ writes. all_changes new group (written writes rows) (i + 1) cs >>= λ others. Ok (writes ++ others)) (change_same s new e group rows i c first.0 known.0 first.1)
    ∙ ap (λ (m : Result (List Write) Turn). m >>= λ others. Ok (first.0 ++ others)) (changes_same s new e group (written first.0 rows) (i + 1) cs others.0 (known.1 first.0 first.1) others.1)
    ∙ others.2

pub outcome_same : (s new : Schema) (group : List ℕ) (txn : Transaction) (rows : Rows) (done : Done) → Extends s new → LookAtKnown s group rows (first_change txn) txn.writes
    → outcome_in s group txn rows ≡ Ok done → outcome_in new group txn rows ≡ Ok done
outcome_same s new group txn rows done e known h =
    let checked = then_ok (all_checks s group rows 0 txn.checks) (λ _. all_reads s group rows (first_read txn) txn.reads >>= λ replies. written_by s group txn rows replies) done h in
    let read = then_ok (all_reads s group rows (first_read txn) txn.reads) (λ replies. written_by s group txn rows replies) done checked.2 in
    let changed = then_ok (all_changes s group rows (first_change txn) txn.writes) (λ writes. done_with s group txn read.0 writes) done read.2 in
    ap (λ (m : Result (Unit {0}) Turn). m >>= λ _. all_reads new group rows (first_read txn) txn.reads >>= λ replies. written_by new group txn rows replies) (checks_same s new e group rows 0 txn.checks checked.1)
    ∙ ap (λ (m : Result (List (Option Shown)) Turn). m >>= λ replies. written_by new group txn rows replies) (reads_same s new e group rows (first_read txn) txn.reads ∙ read.1)
    ∙ ap (λ (m : Result (List Write) Turn). m >>= λ writes. done_with new group txn read.0 writes) (changes_same s new e group rows (first_change txn) txn.writes changed.0 known changed.1)
    ∙ ap (λ (m : Result (Unit {0}) Turn). m >>= λ _. unless_large (longest group changed.0 txn.sends) (record { replies = read.0; writes = changed.0; sends = txn.sends })) (sends_same s new e (first_send txn) txn.sends)
    ∙ changed.2

-- two runs of which the second does what the first does
pub both_same : (first second : Result Done Turn) (x y : Result Done Turn) → Gives first x → Gives second y → ((done : Done) → x ≡ Ok done → y ≡ Ok done)
    → IfOk first (λ done. IfOk second (λ other. other ≡ done))
both_same (Ok done) (Ok other) x y given others law = let e : y ≡ Ok done = law done given in cc
both_same (Ok done) (Err turn) x y given others law = tt
both_same (Err turn) second x y given others law = tt

pub same_rows : (old new : Versions) → SameVersions old new → new ≡ old
same_rows old new same = λ i key p. same key p i
