-- What is found in an index is of its table: an index names rows that fit alone.
use Rattle.std.proofs.Common.{◌≡◌, ◌&&◌, ◌||◌, ℕ, suc, ◌+◌, ◌≤◌, nat_lt, Bool, true, false, cond, List, [], ◌∷◌, length, map, flat_map, fold, Ordering, Less, Equal, Greater, Option, Some, None, Ok, Err, refl, sym, subst, arith}
use Rattle.std.specs.Prelude.{filter, is_ok, is_none}
use Rattle.std.specs.List.{AllByRecursion}
use Rattle.std.specs.BTreeMap.{insert_entry}
use Rattle.std.specs.Ordering.{match_ordering}
use Rattle.std.proofs.lemmas.Bool.Decides.{nat_tests}
use Rattle.std.proofs.lemmas.Bool.{and_parts, and_from, or_left}
use Rattle.mega_base.specs.declared.names.GroupId.{GroupId}
use Rattle.mega_base.specs.declared.values.Cell.{Cell}
use Rattle.mega_base.specs.declared.values.Kind.{Kind}
use Rattle.mega_base.specs.declared.values.Row.{Row}
use Rattle.mega_base.specs.declared.values.Value.{Value}
use Rattle.mega_keys.specs.declared.fault.KeyFault.TheVariants.{Missing}
use Rattle.mega_keys.specs.Answers.{fault_of, fault_or_missing, unless_fault}
use Rattle.mega_keys.specs.Fit.{has_kind, key_kinds, misplaced}
use Rattle.mega_keys.specs.Spelling.{row_bytes}
use Rattle.mega_schema.specs.declared.schema.Index.{Index}
use Rattle.mega_schema.specs.declared.schema.Property.{Property}
use Rattle.mega_schema.specs.declared.schema.Schema.{Schema}
use Rattle.mega_schema.specs.declared.schema.Table.{Table}
use Rattle.mega_schema.specs.Shaping.{shape_of}
use Rattle.mega_index.specs.declared.found.Found.{Found}
use Rattle.mega_index.specs.Cells.{is_listed, key_values, row_with}
use Rattle.mega_index.specs.Entries.{found_of, index_of, placed, with_row, with_row_under}
use Rattle.mega_index.specs.Finding.{begun_by, front_of, indexed_kinds, unless_misplaced}
use Rattle.mega_index.specs.Fits.{cell_fits, cells_fit, entry_keys, group_bytes_of, has_place, has_required, key_of, long_key, numbered, properties_fit, row_fits, stands_in}
use Rattle.mega_index.specs.Rows.{Listed, key_cmp}
use Rattle.mega_outcome.specs.declared.answer.Mark.{Mark}
use Rattle.mega_outcome.specs.declared.request.FindRequest.{FindRequest}
use Rattle.mega_rules.specs.Finding.{find_answer, find_by, global_found, group_bytes, group_marks, local_found, mark_at, refreshed_marks, rows_through}
use Rattle.mega_rules.specs.Met.{Met}
use Rattle.mega_transcript.specs.PlainRows.{are_marks, is_alone}
use Rattle.mega_plain_laws.specs.Answers.{AreOfKinds, IsFit, IsFound, IsFoundIn}

-- ---- cells that are stored

lower : (ps : List Property) (low at : ℕ) (cells : List Cell) → low ≤ at → cells_fit ps at cells ≡ true → cells_fit ps low cells ≡ true
lower ps low at [] le fit = refl
lower ps low at (c ∷ cs) le fit =
    let parts = and_parts (nat_lt at c.property) (cell_fits (numbered ps c.property) c.values && cells_fit ps c.property cs) fit in
    and_from (nat_lt low c.property) (cell_fits (numbered ps c.property) c.values && cells_fit ps c.property cs) (less low at c.property le parts.0) parts.1
  where
    less : (low at n : ℕ) → low ≤ at → nat_lt at n ≡ true → nat_lt low n ≡ true
    less low at n le lt = grind (arith, nat_tests)

above : (low n : ℕ) → nat_lt low n ≡ true → low ≤ n
above low n lt = grind (arith, nat_tests)

filtered_fit : (ps : List Property) (test : Cell → Bool) (low : ℕ) (cells : List Cell) → cells_fit ps low cells ≡ true → cells_fit ps low (filter test cells) ≡ true
filtered_fit ps test low [] fit = refl
filtered_fit ps test low (c ∷ cs) fit = by (test c) (filtered_fit ps test c.property cs more.1)
  where
    parts : (nat_lt low c.property ≡ true) × ((cell_fits (numbered ps c.property) c.values && cells_fit ps c.property cs) ≡ true)
    parts = and_parts (nat_lt low c.property) (cell_fits (numbered ps c.property) c.values && cells_fit ps c.property cs) fit

    more : (cell_fits (numbered ps c.property) c.values ≡ true) × (cells_fit ps c.property cs ≡ true)
    more = and_parts (cell_fits (numbered ps c.property) c.values) (cells_fit ps c.property cs) parts.1

    by : (t : Bool) → cells_fit ps c.property (filter test cs) ≡ true → cells_fit ps low (cond t (c ∷ filter test cs) (filter test cs)) ≡ true
    by true rest = and_from (nat_lt low c.property) (cell_fits (numbered ps c.property) c.values && cells_fit ps c.property (filter test cs)) parts.0 (and_from (cell_fits (numbered ps c.property) c.values) (cells_fit ps c.property (filter test cs)) more.0 rest)
    by false rest = lower ps low c.property (filter test cs) (above low c.property parts.0) rest

-- ---- key values

kinds_are : (kinds : List Kind) (values : List Value) (i : ℕ) → misplaced kinds values i ≡ None → nat_lt (length values) (length kinds) ≡ false → AreOfKinds kinds values
kinds_are [] [] i none enough = tt
kinds_are [] (value ∷ values) i none enough = cc
kinds_are (kind ∷ kinds) [] i none enough = absurd (short (length kinds) enough)
  where
    short : (n : ℕ) → nat_lt 0 (suc n) ≡ false → ⊥
    short n h = grind (arith, nat_tests)
kinds_are (kind ∷ kinds) (value ∷ values) i none enough = by (has_kind kind value) refl none (λ h. kinds_are kinds values (i + 1) h (less (length values) (length kinds) enough))
  where
    less : (a b : ℕ) → nat_lt (suc a) (suc b) ≡ false → nat_lt a b ≡ false
    less a b h = grind (arith, nat_tests)

    by : (t : Bool) → has_kind kind value ≡ t → cond t (misplaced kinds values (i + 1)) (Some i) ≡ None → (misplaced kinds values (i + 1) ≡ None → AreOfKinds kinds values) → AreOfKinds (kind ∷ kinds) (value ∷ values)
    by true is h again = (is, again h)
    by false is h again = cc

faultless : (kinds : List Kind) (values : List Value) (bytes : List ℕ) → is_ok (unless_fault (fault_of kinds values) bytes) ≡ true → AreOfKinds kinds values
faultless kinds values bytes ok = by (misplaced kinds values 0) refl ok
  where
    enough : misplaced kinds values 0 ≡ None → (t : Bool) → nat_lt (length values) (length kinds) ≡ t → is_ok (unless_fault (cond t (Err (Missing (length values))) (Ok tt)) bytes) ≡ true → AreOfKinds kinds values
    enough none false is h = kinds_are kinds values 0 none is
    enough none true is h = cc

    by : (o : Option ℕ) → misplaced kinds values 0 ≡ o → is_ok (unless_fault (fault_or_missing o (length values) (length kinds)) bytes) ≡ true → AreOfKinds kinds values
    by None none h = enough none (nat_lt (length values) (length kinds)) refl h
    by (Some i) is h = cc

-- ---- an index names rows that fit

row_found : (s : Schema) (x : Index) (t : Table) (row : Row) → numbered s.tables x.table ≡ Some t → row_fits s x.table t row ≡ true → IsFound s (found_of x t row)
row_found s x t row at fits =
    subst (λ (o : Option Table). IsFoundIn s x.table o (key_values t.primary row) (row_with x.storing row)) (sym at) (
      filtered_fit t.properties (λ (c : Cell). is_listed x.storing c.property) 0 row.cells (and_parts (cells_fit t.properties 0 row.cells) (has_required 1 t.properties row) place.0).0,
      faultless (key_kinds (shape_of s x.table t)) (key_values t.primary row) (row_bytes (shape_of s x.table t) (key_values t.primary row)) place.1,
    )
  where
    place : (properties_fit t row ≡ true) × (is_ok (key_of s x.table t (key_values t.primary row)) ≡ true)
    place = and_parts (properties_fit t row) (is_ok (key_of s x.table t (key_values t.primary row))) (and_parts (has_place s x.table t row) (is_none (long_key s x.table t row)) fits).0

abbrev AreFound : Schema → List (List ℕ × Found) → Type 0
AreFound s entries = AllByRecursion (λ (e : List ℕ × Found). IsFound s e.1) entries

inserted : (s : Schema) (key : List ℕ) (found : Found) (entries : List (List ℕ × Found)) → IsFound s found → AreFound s entries → AreFound s (insert_entry key_cmp entries key found)
inserted s key found [] is are = (is, tt)
inserted s key found (e ∷ es) is are = by (key_cmp key e.0) (inserted s key found es is are.1)
  where
    by : (o : Ordering) → AreFound s (insert_entry key_cmp es key found) → AreFound s (match_ordering o ((key, found) ∷ e ∷ es) ((e.0, found) ∷ es) (e ∷ insert_entry key_cmp es key found))
    by Less rest = (is, are)
    by Equal rest = (is, are.1)
    by Greater rest = (are.0, rest)

all_placed : (s : Schema) (found : Found) (keys : List (List ℕ)) (entries : List (List ℕ × Found)) → IsFound s found → AreFound s entries → AreFound s (placed entries found keys)
all_placed s found [] entries is are = are
all_placed s found (key ∷ keys) entries is are = all_placed s found keys (insert_entry key_cmp entries key found) is (inserted s key found entries is are)

one_row : (s : Schema) (number : ℕ) (x : Index) (o : Option Table) (entries : List (List ℕ × Found)) (one : List ℕ × Row) → numbered s.tables x.table ≡ o → AreFound s entries → AreFound s (with_row_under s number x o entries one)
one_row s number x None entries one at are = are
one_row s number x (Some t) entries one at are = by (stands_in s x.table (Some t) one.0 one.1) refl
  where
    fits : stands_in s x.table (Some t) one.0 one.1 ≡ true → row_fits s x.table t one.1 ≡ true
    fits h = (and_parts _ (row_fits s x.table t one.1) h).1

    by : (b : Bool) → stands_in s x.table (Some t) one.0 one.1 ≡ b → AreFound s (cond b (with_row s number x t entries one.1) entries)
    by true is = all_placed s (found_of x t one.1) (entry_keys number x (group_bytes_of s x.table t one.1) (key_values t.primary one.1) one.1) entries (row_found s x t one.1 at (fits is)) are
    by false is = are

all_rows : (s : Schema) (number : ℕ) (x : Index) (rows : Listed) (entries : List (List ℕ × Found)) → AreFound s entries → AreFound s (fold (λ entries one. with_row_under s number x (numbered s.tables x.table) entries one) entries rows)
all_rows s number x [] entries are = are
all_rows s number x (one ∷ rows) entries are = all_rows s number x rows (with_row_under s number x (numbered s.tables x.table) entries one) (one_row s number x (numbered s.tables x.table) entries one refl are)

begun_found : (s : Schema) (test : List ℕ × Found → Bool) (entries : List (List ℕ × Found)) → AreFound s entries → AllByRecursion (IsFound s) (map (λ (e : List ℕ × Found). e.1) (filter test entries))
begun_found s test [] are = tt
begun_found s test (e ∷ es) are = by (test e) (begun_found s test es are.1)
  where
    by : (t : Bool) → AllByRecursion (IsFound s) (map (λ (e : List ℕ × Found). e.1) (filter test es)) → AllByRecursion (IsFound s) (map (λ (e : List ℕ × Found). e.1) (cond t (e ∷ filter test es) (filter test es)))
    by true rest = (are.0, rest)
    by false rest = rest

-- ---- what a find answers

answer_fit : (s : Schema) (marks : List Mark) (place : Option ℕ) (found : List Found) → (are_marks marks || is_alone marks) ≡ true → AllByRecursion (IsFound s) found → IsFit s (find_answer marks (unless_misplaced place found))
answer_fit s marks None found fit are = (fit, are)
answer_fit s marks (Some place) found fit are = tt

find_fit : (s : Schema) (request : FindRequest) (marks : List Mark) (group : List ℕ) (listed : Listed) (x : Option Index) → (are_marks marks || is_alone marks) ≡ true → IsFit s (find_by s request marks group listed x)
find_fit s request marks group listed None fit = (fit, tt)
find_fit s request marks group listed (Some x) fit =
    answer_fit s marks (misplaced (indexed_kinds s x) request.values 0) (begun_by (front_of request.index x group request.values) (index_of s request.index x listed)) fit
    (begun_found s _ (index_of s request.index x listed) (all_rows s request.index x listed [] tt))

one_mark : (group : GroupId) (p : ℕ) → (are_marks (mark_at group p) || is_alone (mark_at group p)) ≡ true
one_mark group p = by (nat_lt 0 p) refl
  where
    by : (t : Bool) → nat_lt 0 p ≡ t → (are_marks (cond t (record { group = group; position = record { 0 = p } } ∷ []) []) || is_alone (cond t (record { group = group; position = record { 0 = p } } ∷ []) [])) ≡ true
    by true is = either_one (are_marks (record { group = group; position = record { 0 = p } } ∷ []))
      where
        either_one : (b : Bool) → (b || true) ≡ true
        either_one true = refl
        either_one false = refl
    by false is = refl

local_marks : (group : Option GroupId) (p : ℕ) → (are_marks (group_marks group p) || is_alone (group_marks group p)) ≡ true
local_marks None p = refl
local_marks (Some group) p = one_mark group p

pub local_fit : (s : Schema) (request : FindRequest) (p : ℕ) (listed : Listed) → IsFit s (local_found s request p listed)
local_fit s request p listed = find_fit s request (group_marks request.group p) (group_bytes request.group) listed (numbered s.indexes request.index) (local_marks request.group p)

pub global_fit : (s : Schema) (met : List Met) (request : FindRequest) → are_marks (refreshed_marks met) ≡ true → IsFit s (global_found s met request)
global_fit s met request fit =
    find_fit s request (refreshed_marks met) [] (flat_map (rows_through met) (refreshed_marks met)) (numbered s.indexes request.index) (or_left (are_marks (refreshed_marks met)) (is_alone (refreshed_marks met)) fit)
