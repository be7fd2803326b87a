-- A write of a group's entry: its key is the group's, and one that an item of the group can name where a row is written under a row key of a table.
use Rattle.std.proofs.Common.{◌≡◌, ℕ, cond, Bool, true, false, List, [], ◌∷◌, fold, take, zero, suc, refl, sym, ap, ◌∙◌, subst, Option, Some, None, Result, Ok, Err}
use Rattle.mega_base.specs.declared.values.Value.{Value}
use Rattle.mega_base.specs.declared.values.Row.{Row}
use Rattle.mega_entry.specs.declared.content.Write.{Write}
use Rattle.mega_schema.specs.declared.schema.Table.{Table}
use Rattle.mega_schema.specs.declared.schema.Schema.{Schema}
use Rattle.mega_keys.specs.declared.fault.KeyFault.{KeyFault}
use Rattle.mega_index.specs.Rows.{Rows, changed, same_key, written}
use Rattle.mega_index.specs.Fits.{numbered, group_of, key_of}
use Rattle.mega_index.specs.Fitted.{table_of}
use Rattle.mega_index.specs.Entries.{local_entries}
use Rattle.mega_outcome.specs.declared.answer.Turn.TheVariants.{OtherGroup}
use Rattle.mega_outcome.specs.Places.{key_in, key_in_table, placed, spelled}
use Rattle.mega_run_laws.specs.of_tape_laws.Indexed.{IsDeclared}
use Rattle.mega_index.proofs.KeyLists.{key_is, same_self, under}
use Rattle.mega_run_laws.proofs.of_tape_laws.RowKeys.{IsKeyOf, OfTable, of_table}
use Rattle.mega_run_laws.specs.Justified.{Each}
use Rattle.mega_row_laws.proofs.Reading.{read_one_table}
use Rattle.mega_row_laws.proofs.Entries.{read_no_entry}
use Rattle.mega_row_laws.proofs.Keys.{KeyOf, a_read, a_spelled, an_entry}

-- key values of the group spell its key, it deletes what stands under a row key of the group, or it is of an index entry
pub data WriteOf (s : Schema) (group : List ℕ) (write : Write) : Type 0 where
  a_named : (n : ℕ) (t : Table) (values : List Value) → numbered s.tables n ≡ Some t → key_of s n t values ≡ Ok write.key → group_of s n t values ≡ Ok group → WriteOf s group write
  a_deletion : (n : ℕ) (t : Table) → numbered s.tables n ≡ Some t → IsKeyOf s n t group write.key → write.row ≡ None → WriteOf s group write
  of_entry : (n : ℕ) (t : Table) (row : Option Row) → numbered s.tables n ≡ Some t → (under (local_entries s n t row) write.key ≡ None → ⊥) → WriteOf s group write

pub key_of_write : (s : Schema) (group : List ℕ) (write : Write) → WriteOf s group write → KeyOf s group write.key
key_of_write s group write (a_named n t values at own of) = a_spelled n t values at own of
key_of_write s group write (a_deletion n t at is none) = a_read n t at is
key_of_write s group write (of_entry n t row at some) = an_entry n t row at some

-- ---- the key of a row that is written

names : (s : Schema) (group key : List ℕ) (n : ℕ) (t : Table) (values : List Value) → numbered s.tables n ≡ Some t → key_of s n t values ≡ Ok key → group_of s n t values ≡ Ok group → key_in s group 0 n values ≡ Ok key
names s group key n t values at own of =
    ap (λ o. key_in_table s group 0 n o values) at
    ∙ (λ i. placed 0 group (of i) (own i))
    ∙ ap (λ b. cond b (spelled 0 (Ok key)) (Err (OtherGroup 0))) (same_self group)

named : (s : Schema) → IsDeclared s → (group : List ℕ) (write : Write) → WriteOf s group write → (n : ℕ) (row : Row) → table_of s group write.key ≡ Some n → write.row ≡ Some row
    → (values : List Value) × (key_in s group 0 n values ≡ Ok write.key)
named s d group write (a_named m t values at own of_group) n row of there =
    let r = of_table s group write.key n d.most of in
    let number : m ≡ n = read_one_table s d m n t r.table values write.key group at r.numbered_is own r.is_key in
    (values, subst (λ k. key_in s group 0 k values ≡ Ok write.key) number (names s group write.key m t values at own of_group))
named s d group write (a_deletion m t at is none) n row of there = absurd (let e : None ≡ Some row = sym none ∙ there in cc)
named s d group write (of_entry m t entry at some) n row of there =
    let r = of_table s group write.key n d.most of in
    absurd (some (read_no_entry s d m n t r.table group write.key at r.numbered_is r.is_key entry))

-- ---- rows that stand behind writes

-- were written by one of them
stands_by : (key : List ℕ) (row : Row) (Q : Type 0) (writes : List Write) (rows : Rows) → Each (λ (write : Write). write.key ≡ key → write.row ≡ Some row → Q) writes → (rows key ≡ Some row → Q)
    → written writes rows key ≡ Some row → Q
stands_by key row Q [] rows each before there = before there
stands_by key row Q (write ∷ writes) rows each before there = stands_by key row Q writes (changed rows write) each.1 (by (same_key write.key key) refl) there
  where
    by : (b : Bool) → same_key write.key key ≡ b → cond b write.row (rows key) ≡ Some row → Q
    by true is h = each.0 (key_is write.key key is) h
    by false is h = before h

each_of : (s : Schema) → IsDeclared s → (group key : List ℕ) (n : ℕ) (row : Row) → table_of s group key ≡ Some n → (writes : List Write) → Each (WriteOf s group) writes
    → Each (λ (write : Write). write.key ≡ key → write.row ≡ Some row → (values : List Value) × (key_in s group 0 n values ≡ Ok key)) writes
each_of s d group key n row of [] each = tt
each_of s d group key n row of (write ∷ writes) each = (here, each_of s d group key n row of writes each.1)
  where
    here : write.key ≡ key → write.row ≡ Some row → (values : List Value) × (key_in s group 0 n values ≡ Ok key)
    here same there = subst (λ k. (values : List Value) × (key_in s group 0 n values ≡ Ok k)) same (named s d group write each.0 n row (ap (table_of s group) same ∙ of) there)

each_front : {X : Type 0} (P : X → Type 0) (count : ℕ) (xs : List X) → Each P xs → Each P (take count xs)
each_front P zero xs each = tt
each_front P (suc count) [] each = tt
each_front P (suc count) (x ∷ xs) each = (each.0, each_front P count xs each.1)

no_rows_there : (row : Row) (Q : Type 0) → None ≡ Some row → Q
no_rows_there row Q h = cc

-- under a row key of a table they stand where an item of the group can name them
pub row_named : (s : Schema) → IsDeclared s → (group key : List ℕ) (n count : ℕ) (row : Row) (writes : List Write) → Each (WriteOf s group) writes → table_of s group key ≡ Some n
    → written (take count writes) (λ k. None) key ≡ Some row → (values : List Value) × (key_in s group 0 n values ≡ Ok key)
row_named s d group key n count row writes each of there =
    stands_by key row ((values : List Value) × (key_in s group 0 n values ≡ Ok key)) (take count writes) (λ k. None)
    (each_of s d group key n row of (take count writes) (each_front (WriteOf s group) count writes each)) (no_rows_there row _) there
