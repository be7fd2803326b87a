-- The writes of a transaction that fits, on rows of tables without a local index: each put is made, and each deletion where its row is there.
use Rattle.std.proofs.Common.{◌≡◌, ℕ, zero, suc, ◌+◌, ◌&&◌, ◌||◌, cond, Bool, true, false, List, [], ◌∷◌, ◌++◌, take, refl, sym, ap, ◌∙◌, subst, Option, Some, None, Result, Ok, Err}
use Rattle.std.specs.Prelude.{not, ◌==◌, is_some, if◌then◌else◌}
use Rattle.std.specs.List.{list_any}
use Rattle.std.specs.Result.{result_ok}
use Rattle.std.proofs.lemmas.Bool.{or_parts}
use Rattle.mega_base.specs.declared.values.Value.{Value}
use Rattle.mega_base.specs.declared.values.Row.{Row}
use Rattle.mega_entry.specs.declared.content.Write.{Write}
use Rattle.mega_schema.specs.declared.schema.Table.{Table}
use Rattle.mega_schema.specs.declared.schema.Index.{Index}
use Rattle.mega_schema.specs.declared.schema.Schema.{Schema}
use Rattle.mega_index.specs.Rows.{Rows, Listed, changed, written}
use Rattle.mega_index.specs.Cells.{key_values, row_with}
use Rattle.mega_index.specs.Fits.{numbered, fits, entry_keys, indexes_of, group_bytes_of, row_fits}
use Rattle.mega_index.specs.Entries.{placed, local_in, local_entries}
use Rattle.mega_index.specs.LocalWrites.{turned, index_writes_in, index_writes}
use Rattle.mega_outcome.specs.declared.answer.Turn.{Turn}
use Rattle.mega_outcome.specs.declared.answer.Turn.TheVariants.{BadRow}
use Rattle.mega_outcome.specs.declared.transaction.RowRef.{RowRef}
use Rattle.mega_outcome.specs.declared.transaction.Change.{Change}
use Rattle.mega_outcome.specs.declared.transaction.Change.TheVariants.{Put, Delete, Add}
use Rattle.mega_outcome.specs.Places.{◌>>=◌, key_in}
use Rattle.mega_outcome.specs.Changes.{replaced, put_in, delete_at, change, all_changes}
use Rattle.mega_outcome.specs.Steps.{put_key, changed_key}
use Rattle.mega_two_driver.specs.Tables.{is_local_over}
use Rattle.mega_two_driver.specs.Fits.{fits_its_table, new_row, write_under, write_of, with_write, writes_of, table_of}
use Rattle.mega_two_outcome_laws.proofs.Keyed.{Keyed, names_key, key_again}

-- ---- tables without a local index

turned_about : (a b : Bool) → (not a && b) ≡ (b && not a)
turned_about true true = refl
turned_about true false = refl
turned_about false true = refl
turned_about false false = refl

none_local : (number : ℕ) (xs : List Index) (k n : ℕ) (group : List ℕ) (key : List Value) (row : Row) (entries : Listed) → list_any (is_local_over n) xs ≡ false
    → local_in number (take k xs) n group key row entries ≡ entries
none_local number [] zero n group key row entries e = refl
none_local number [] (suc k) n group key row entries e = refl
none_local number (x ∷ xs) zero n group key row entries e = refl
none_local number (x ∷ xs) (suc k) n group key row entries e =
    let p = or_parts (is_local_over n x) (list_any (is_local_over n) xs) e in
    let other : ((x.table == n) && not x.global) ≡ false = sym (turned_about x.global (x.table == n)) ∙ p.0 in
    ap (local_in (number + 1) (take k xs) n group key row) (by ((x.table == n) && not x.global) other) ∙ none_local (number + 1) xs k n group key row entries p.1
  where
    by : (b : Bool) → b ≡ false → cond b (placed entries (row_with x.storing row) (entry_keys number x group key row)) entries ≡ entries
    by true g = absurd (cc)
    by false g = refl

no_entries : (s : Schema) (n : ℕ) (t : Table) (row : Option Row) → list_any (is_local_over n) s.indexes ≡ false → local_entries s n t row ≡ []
no_entries s n t None e = refl
no_entries s n t (Some row) e = by (row_fits s n t row)
  where
    by : (b : Bool) → (if b then local_in 1 (indexes_of s) n (group_bytes_of s n t row) (key_values t.primary row) row [] else []) ≡ []
    by true = none_local 1 s.indexes 64 n (group_bytes_of s n t row) (key_values t.primary row) row [] e
    by false = refl

no_writes : (s : Schema) (n : ℕ) (old new : Option Row) → list_any (is_local_over n) s.indexes ≡ false → index_writes s n old new ≡ []
no_writes s n old new e = by (numbered s.tables n)
  where
    by : (o : Option Table) → index_writes_in s n o old new ≡ []
    by None = refl
    by (Some t) = λ i. turned (no_entries s n t old e i) (no_entries s n t new e i)

pub alone : (s : Schema) (n : ℕ) (key : List ℕ) (old new : Option Row) → list_any (is_local_over n) s.indexes ≡ false → replaced s n key old new ≡ (record { key = key; row = new }) ∷ []
alone s n key old new e = ap (λ ws. (record { key = key; row = new }) ∷ ws) (no_writes s n old new e)

-- ---- one change

-- its row is put, or there is one to delete
abbrev pub may_be_made : Rows → Write → Bool
may_be_made rows write = is_some write.row || is_some (rows write.key)

abbrev pub one : Bool → Write → Option (List Write)
one true write = Some (write ∷ [])
one false write = None

pub record IsMade (s : Schema) (group : List ℕ) (c : Change) (write : Write) : Type 0 where
  pub values : List Value
  pub keyed : Keyed s group (table_of c) values write.key
  pub row : write.row ≡ new_row c
  pub made : (rows : Rows) (i : ℕ) → result_ok (change s group rows i c) ≡ one (may_be_made rows write) write

same_write : (s : Schema) (c : Change) (key : List ℕ) (write : Write) (b : Bool) → fits_its_table s c ≡ b → (if b then Some (record { key = key; row = new_row c }) else None) ≡ Some write
    → (fits_its_table s c ≡ true) × (record { key = key; row = new_row c } ≡ write)
same_write s c key write true is e = (is, cc)
same_write s c key write false is e = absurd (cc)

put_made : (s : Schema) (group : List ℕ) (n : ℕ) (row : Row) (t : Table) (key : List ℕ) → numbered s.tables n ≡ Some t → key_in s group 0 n (key_values t.primary row) ≡ Ok key → fits s n row ≡ true
    → list_any (is_local_over n) s.indexes ≡ false → (rows : Rows) (i : ℕ) → result_ok (change s group rows i (Put n row)) ≡ Some ((record { key = key; row = Some row }) ∷ [])
put_made s group n row t key at keyed fit bare rows i =
    ap (λ o. result_ok (put_in s group rows i n o row)) at
    ∙ ap (λ (r : Result (List ℕ) Turn). result_ok (r >>= λ k. if fits s n row then Ok (replaced s n k (rows k) (Some row)) else Err (BadRow i))) (key_again s group 0 i n (key_values t.primary row) key keyed)
    ∙ ap (λ b. result_ok (cond {A = Result (List Write) Turn} b (Ok (replaced s n key (rows key) (Some row))) (Err (BadRow i)))) fit
    ∙ ap Some (alone s n key (rows key) (Some row) bare)

delete_made : (s : Schema) (group : List ℕ) (row : RowRef) (key : List ℕ) → key_in s group 0 row.table row.key ≡ Ok key
    → list_any (is_local_over row.table) s.indexes ≡ false → (rows : Rows) (i : ℕ) → result_ok (change s group rows i (Delete row)) ≡ one (is_some (rows key)) (record { key = key; row = None })
delete_made s group row key keyed bare rows i =
    ap (λ (r : Result (List ℕ) Turn). result_ok (r >>= λ k. delete_at s i row.table k (rows k))) (key_again s group 0 i row.table row.key key keyed)
    ∙ by (rows key)
  where
    by : (o : Option Row) → result_ok (delete_at s i row.table key o) ≡ one (is_some o) (record { key = key; row = None })
    by None = refl
    by (Some old) = ap Some (alone s row.table key (Some old) None bare)

pub is_made : (s : Schema) (group : List ℕ) (c : Change) (write : Write) → write_of s group c ≡ Some write → list_any (is_local_over (table_of c)) s.indexes ≡ false → IsMade s group c write
unfolding write_of
is_made s group (Put n row) write e bare = by (numbered s.tables n) refl e
  where
    third : (t : Table) → numbered s.tables n ≡ Some t → (r : Result (List ℕ) Turn) → key_in s group 0 n (key_values t.primary row) ≡ r → write_under s (Put n row) (result_ok r) ≡ Some write → IsMade s group (Put n row) write
    third t at (Ok key) keyed g =
        let p = same_write s (Put n row) key write (fits_its_table s (Put n row)) refl g in
        subst (λ w. IsMade s group (Put n row) w) p.1 (record { values = key_values t.primary row; keyed = names_key s group 0 n (key_values t.primary row) key keyed; row = refl; made = put_made s group n row t key at keyed p.0 bare })
    third t at (Err turn) keyed g = absurd (cc)

    by : (o : Option Table) → numbered s.tables n ≡ o → write_under s (Put n row) (result_ok (put_key s group 0 n o row)) ≡ Some write → IsMade s group (Put n row) write
    by None at g = absurd (cc)
    by (Some t) at g = third t at (key_in s group 0 n (key_values t.primary row)) refl g
is_made s group (Delete row) write e bare = by (key_in s group 0 row.table row.key) refl e
  where
    by : (r : Result (List ℕ) Turn) → key_in s group 0 row.table row.key ≡ r → write_under s (Delete row) (result_ok r) ≡ Some write → IsMade s group (Delete row) write
    by (Ok key) keyed g =
        subst (λ w. IsMade s group (Delete row) w) (same_write s (Delete row) key write (fits_its_table s (Delete row)) refl g).1
        (record { values = row.key; keyed = names_key s group 0 row.table row.key key keyed; row = refl; made = delete_made s group row key keyed bare })
    by (Err turn) keyed g = absurd (cc)
is_made s group (Add row property by) write e bare = no (changed_key s group 0 (Add row property by)) e
  where
    no : (r : Result (List ℕ) Turn) → write_under s (Add row property by) (result_ok r) ≡ Some write → IsMade s group (Add row property by) write
    no (Ok key) g = absurd (cc)
    no (Err turn) g = absurd (cc)

-- the key of a row that is put
pub put_keyed : (s : Schema) (group : List ℕ) (n : ℕ) (row : Row) (t : Table) (write : Write) → numbered s.tables n ≡ Some t → write_of s group (Put n row) ≡ Some write
    → (key_in s group 0 n (key_values t.primary row) ≡ Ok write.key) × (write ≡ record { key = write.key; row = Some row })
unfolding write_of
put_keyed s group n row t write at e = by (key_in s group 0 n (key_values t.primary row)) refl (ap (λ o. write_under s (Put n row) (result_ok (put_key s group 0 n o row))) (sym at) ∙ e)
  where
    by : (r : Result (List ℕ) Turn) → key_in s group 0 n (key_values t.primary row) ≡ r → write_under s (Put n row) (result_ok r) ≡ Some write
        → (key_in s group 0 n (key_values t.primary row) ≡ Ok write.key) × (write ≡ record { key = write.key; row = Some row })
    by (Ok key) keyed g =
        let p = same_write s (Put n row) key write (fits_its_table s (Put n row)) refl g in
        (keyed ∙ ap (λ (w : Write). Ok w.key) p.1, sym p.1 ∙ ap (λ (w : Write). record { key = w.key; row = Some row }) p.1)
    by (Err turn) keyed g = absurd (cc)

-- ---- all of them

abbrev pub AreMade : Schema → List ℕ → List Change → List Write → Type 0
AreMade s group [] [] = Unit {0}
AreMade s group [] (write ∷ writes) = ⊥
AreMade s group (c ∷ cs) [] = ⊥
AreMade s group (c ∷ cs) (write ∷ writes) = IsMade s group c write × AreMade s group cs writes

abbrev pub AreBare : Schema → List Change → Type 0
AreBare s [] = Unit {0}
AreBare s (c ∷ cs) = (list_any (is_local_over (table_of c)) s.indexes ≡ false) × AreBare s cs

pub are_made : (s : Schema) (group : List ℕ) (cs : List Change) (writes : List Write) → writes_of s group cs ≡ Some writes → AreBare s cs → AreMade s group cs writes
are_made s group [] writes e bare = subst (AreMade s group []) (let same : [] ≡ writes = cc in same) tt
are_made s group (c ∷ cs) writes e bare = by (write_of s group c) refl (writes_of s group cs) refl (λ others are. are_made s group cs others are bare.1) e
  where
    by : (o : Option Write) → write_of s group c ≡ o → (p : Option (List Write)) → writes_of s group cs ≡ p → ((others : List Write) → writes_of s group cs ≡ Some others → AreMade s group cs others) → with_write o p ≡ Some writes → AreMade s group (c ∷ cs) writes
    by None is p are rest g = absurd (cc)
    by (Some write) is None are rest g = absurd (cc)
    by (Some write) is (Some others) are rest g =
        subst (AreMade s group (c ∷ cs)) (let same : write ∷ others ≡ writes = cc in same) (is_made s group c write is bare.0, rest others are)

-- each in turn, on what the earlier ones left
abbrev pub may_be : Rows → List Write → Bool
may_be rows [] = true
may_be rows (write ∷ writes) = may_be_made rows write && may_be (changed rows write) writes

abbrev pub all_or_none : Bool → List Write → Option (List Write)
all_or_none true writes = Some writes
all_or_none false writes = None

pub changes_are : (s : Schema) (group : List ℕ) (cs : List Change) (writes : List Write) → AreMade s group cs writes → (rows : Rows) (i : ℕ)
    → result_ok (all_changes s group rows i cs) ≡ all_or_none (may_be rows writes) writes
changes_are s group [] [] made rows i = refl
changes_are s group [] (w ∷ ws) made rows i = absurd made
changes_are s group (c ∷ cs) [] made rows i = absurd made
changes_are s group (c ∷ cs) (write ∷ writes) made rows i = by (change s group rows i c) (may_be_made rows write) refl ((made.0).made rows i) (changes_are s group cs writes made.1 (changed rows write) (i + 1))
  where
    joined : (q : Result (List Write) Turn) (b : Bool) → result_ok q ≡ all_or_none b writes → result_ok (q >>= λ others. Ok ((write ∷ []) ++ others)) ≡ all_or_none b (write ∷ writes)
    joined (Ok others) true e = ap (λ ws. Some (write ∷ ws)) (let same : others ≡ writes = cc in same)
    joined (Ok others) false e = absurd (cc)
    joined (Err turn) true e = absurd (cc)
    joined (Err turn) false e = refl

    by : (r : Result (List Write) Turn) (b : Bool) → may_be_made rows write ≡ b → result_ok r ≡ one b write → result_ok (all_changes s group (changed rows write) (i + 1) cs) ≡ all_or_none (may_be (changed rows write) writes) writes
        → result_ok (r >>= λ ws. all_changes s group (written ws rows) (i + 1) cs >>= λ others. Ok (ws ++ others)) ≡ all_or_none (b && may_be (changed rows write) writes) (write ∷ writes)
    by (Ok ws) true is e rest =
        let same : ws ≡ write ∷ [] = cc in
        ap (λ (us : List Write). result_ok (all_changes s group (written us rows) (i + 1) cs >>= λ others. Ok (us ++ others))) same
        ∙ joined (all_changes s group (changed rows write) (i + 1) cs) (may_be (changed rows write) writes) rest
    by (Ok ws) false is e rest = absurd (cc)
    by (Err turn) true is e rest = absurd (cc)
    by (Err turn) false is e rest = refl
