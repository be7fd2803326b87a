-- What transactions and handlers write replaces rows along with their local index writes, so that index rows stay those of the tables' rows.
use Rattle.std.proofs.Common.{◌≡◌, inl, inr, ℕ, ◌+◌, ◌≤◌, cond, Bool, true, false, if◌then◌else◌, List, [], ◌∷◌, ◌++◌, length, refl, sym, ap, ◌∙◌, subst, arith, Option, Some, None, Ok}
use Rattle.std.proofs.lemmas.List.Sums.{fold-append}
use Rattle.mega_base.specs.declared.values.Value.{Value}
use Rattle.mega_base.specs.declared.values.Row.{Row}
use Rattle.mega_entry.specs.declared.content.Write.{Write}
use Rattle.mega_schema.specs.declared.schema.Table.{Table}
use Rattle.mega_schema.specs.declared.schema.Schema.{Schema}
use Rattle.mega_schema.specs.Shaping.{shape_of}
use Rattle.mega_keys.specs.Spelling.{root_part}
use Rattle.mega_index.specs.Rows.{Rows, same_key, changed, written}
use Rattle.mega_index.specs.Cells.{key_values}
use Rattle.mega_index.specs.Fits.{numbered, group_of, key_of, stands_in}
use Rattle.mega_index.specs.LocalWrites.{index_writes}
use Rattle.mega_index.specs.Fitted.{table_of, is_kept, kept_write, fitted_writes}
use Rattle.mega_outcome.specs.declared.transaction.Change.{Change}
use Rattle.mega_outcome.specs.Places.{◌>>=◌}
use Rattle.mega_outcome.specs.Changes.{replaced, change, all_changes}
use Rattle.mega_tape_laws.specs.Indexed.{PutsValues, PutValues}
use Rattle.mega_tape_laws.proofs.RowKeys.{Standing, standing, of_table, key_behind, behind_one, Behind, spelt_behind, key_spelt, group_spelt, put_key, table_is}
use Rattle.mega_tape_laws.proofs.IndexKeys.{entry_behind}
use Rattle.mega_tape_laws.proofs.IndexKept.{RowOf, table_least, entry_in, keyed, IndexExact, replaced_kept}
use Rattle.mega_tape_laws.proofs.Replacing.{bind_turn, change_replaces}

-- what `is_kept` asks of the row of a write
abbrev pub row_kept : Schema → ℕ → List ℕ → Option Row → Bool
row_kept s n key None = true
row_kept s n key (Some row) = stands_in s n (numbered s.tables n) key row

module _ (s : Schema) (most : length s.tables ≤ 64) (group : List ℕ) where
  -- where a row stands under the key that key values spell in a table, the key is one of that table
  row_table : (rows : Rows) → IndexExact s group rows → (n : ℕ) (t : Table) (values : List Value) (key : List ℕ) (old : Row) → numbered s.tables n ≡ Some t → group_of s n t values ≡ Ok group → key_of s n t values ≡ Ok key
      → rows key ≡ Some old → table_of s group key ≡ Some n
  row_table rows kept n t values key old is of_group own stands = by (table_of s group key) refl
    where
      behind : Behind group key n
      behind = coe 0 1 (i. Behind (sym (group_spelt (shape_of s n t) (root_part (shape_of s n t) values) group of_group).is i) (sym (key_spelt (shape_of s n t) values key own).is i) n) (spelt_behind (shape_of s n t) values)

      by : (o : Option ℕ) → table_of s group key ≡ o → table_of s group key ≡ Some n
      by (Some m) e =
          let r = of_table s group key m most e in
          e ∙ ap Some (behind_one group key m n (key_behind s m r.table group key r.is_key) behind)
      by None e =
          let o = kept.only key old e stands in
          let row_of : RowOf s group o.number o.table o.at o.row = record { of_table = o.of_table; numbered_is = o.numbered_is; standing = kept.fit o.at o.number o.table o.row o.of_table o.numbered_is o.stands } in
          let f = entry_in s group o.number o.table o.at o.row key old most row_of o.entry in
          let least = table_least s n t most is in
          let same = behind_one group key n (127 + (1 + f.place)) behind (entry_behind (1 + f.place) f.index group (key_values (o.table).primary o.row) o.row key (keyed s group o.number o.table o.row key old f)) in
          absurd (omega (arith, same))

  -- a row is replaced, whose key is that of a table
  replaces : (rows : Rows) → IndexExact s group rows → (n : ℕ) (t : Table) (key : List ℕ) (old new : Option Row) → table_of s group key ≡ Some n → numbered s.tables n ≡ Some t → rows key ≡ old
      → ((row : Row) → new ≡ Some row → Standing s n t key row) → IndexExact s group (written (replaced s n key old new) rows)
  replaces rows kept n t key old new of_number is was fit =
      subst (λ o. IndexExact s group (written (replaced s n key o new) rows)) was (replaced_kept s most group rows kept key n t of_number is new fit)

  -- ---- the changes of a transaction

  change_kept : (rows : Rows) → IndexExact s group rows → (i : ℕ) (c : Change) (writes : List Write) → PutsValues c → change s group rows i c ≡ Ok writes → IndexExact s group (written writes rows)
  change_kept rows kept i c writes held h =
      let r = change_replaces s group rows i writes c h in
      let of_number : table_of s group r.key ≡ Some r.number = elim (r.held held) [
        | inl values ↦ table_is s group r.key r.number r.table most r.numbered_is (put_key s r.number r.table group r.key r.values values r.own r.of_group)
        | inr old ↦ row_table rows kept r.number r.table r.values r.key old.0 r.numbered_is r.of_group r.own old.1
      ] in
      subst (λ w. IndexExact s group (written w rows)) r.is
      (replaces rows kept r.number r.table r.key (rows r.key) r.new of_number r.numbered_is refl
      (r.fits (λ old stands. kept.fit r.key r.number r.table old of_number r.numbered_is stands)))

  pub changes_kept : (rows : Rows) → IndexExact s group rows → (i : ℕ) (cs : List Change) (writes : List Write) → PutValues cs → all_changes s group rows i cs ≡ Ok writes → IndexExact s group (written writes rows)
  changes_kept rows kept i [] writes held h = let same : [] ≡ writes = cc in subst (λ w. IndexExact s group (written w rows)) same kept
  changes_kept rows kept i (c ∷ cs) writes held h =
      let a = bind_turn (change s group rows i c) (λ first. all_changes s group (written first rows) (i + 1) cs >>= λ others. Ok (first ++ others)) writes h in
      let b = bind_turn (all_changes s group (written a.0 rows) (i + 1) cs) (λ others. Ok (a.0 ++ others)) writes a.2 in
      let same : a.0 ++ b.0 ≡ writes = (let e = b.2 in cc) in
      let first = change_kept rows kept i c a.0 held.0 a.1 in
      let more = changes_kept (written a.0 rows) first (i + 1) cs b.0 held.1 b.1 in
      subst (λ w. IndexExact s group (written w rows)) same (subst (IndexExact s group) (sym (fold-append changed rows a.0 b.0)) more)

  -- ---- what a handler writes

  written_alike : (writes : List Write) (R T : Rows) (k : List ℕ) → R k ≡ T k → written writes R k ≡ written writes T k
  written_alike [] R T k h = h
  written_alike (write ∷ writes) R T k h = written_alike writes (changed R write) (changed T write) k (ap (cond (same_key write.key k) write.row) h)

  one_kept : (rows seen : Rows) → IndexExact s group rows → (write : Write) → ((n : ℕ) → table_of s group write.key ≡ Some n → seen write.key ≡ rows write.key) → IndexExact s group (written (kept_write s (table_of s group write.key) seen write) rows)
  one_kept rows seen kept write agree = by (table_of s group write.key) refl
    where
      tested : (n : ℕ) → table_of s group write.key ≡ Some n → (b : Bool) → is_kept s n write ≡ b → IndexExact s group (written (if b then write ∷ index_writes s n (seen write.key) write.row else []) rows)
      tested n at false is = kept
      tested n at true is =
          let r = of_table s group write.key n most at in
          replaces rows kept n r.table write.key (seen write.key) write.row at r.numbered_is (sym (agree n at))
          (λ row same. standing s n r.table write.key row (sym (ap (λ o. stands_in s n o write.key row) r.numbered_is) ∙ sym (ap (row_kept s n write.key) same) ∙ is))

      by : (o : Option ℕ) → table_of s group write.key ≡ o → IndexExact s group (written (kept_write s o seen write) rows)
      by None at = kept
      by (Some n) at = tested n at (is_kept s n write) refl

  pub fitted_kept : (writes : List Write) (rows seen : Rows) → IndexExact s group rows → ((k : List ℕ) (n : ℕ) → table_of s group k ≡ Some n → seen k ≡ rows k) → IndexExact s group (written (fitted_writes s group seen writes) rows)
  fitted_kept [] rows seen kept agree = kept
  fitted_kept (write ∷ writes) rows seen kept agree =
      let first = kept_write s (table_of s group write.key) seen write in
      let more = fitted_kept writes (written first rows) (written first seen) (one_kept rows seen kept write (agree write.key)) (λ k n at. written_alike first seen rows k (agree k n at)) in
      subst (IndexExact s group) (sym (fold-append changed rows first (fitted_writes s group (written first seen) writes))) more
