-- Rows that fit still do after what transactions write.
use Rattle.std.proofs.Common.{◌≡◌, inl, inr, ℕ, ◌+◌, cond, List, [], ◌∷◌, ◌++◌, sym, ap, ◌∙◌, subst, Option, Some, None, Ok}
use Rattle.std.proofs.lemmas.List.Sums.{fold-append}
use Rattle.mega_base.specs.declared.values.Row.{Row}
use Rattle.mega_base.specs.declared.values.Value.{Value}
use Rattle.mega_entry.specs.declared.content.Write.{Write}
use Rattle.mega_schema.specs.declared.schema.Table.{Table}
use Rattle.mega_schema.specs.declared.schema.Schema.{Schema}
use Rattle.mega_index.specs.Rows.{Rows, no_rows, same_key, changed, written}
use Rattle.mega_index.specs.Fits.{numbered, key_of}
use Rattle.mega_index.specs.Cells.{key_values}
use Rattle.mega_index.specs.Entries.{local_entries}
use Rattle.mega_index.specs.LocalWrites.{index_writes_in}
use Rattle.mega_outcome.specs.declared.transaction.Change.{Change}
use Rattle.mega_outcome.specs.Places.{◌>>=◌}
use Rattle.mega_outcome.specs.Changes.{replaced, change, all_changes}
use Rattle.mega_tape_laws.specs.Indexed.{IsDeclared}
use Rattle.mega_tape_laws.specs.Growing.{RowsFit}
use Rattle.mega_index.proofs.KeyLists.{same_self, same_or_not}
use Rattle.mega_tape_laws.proofs.RowKeys.{Standing, standing, stands}
use Rattle.mega_tape_laws.proofs.IndexKept.{turned_leaves}
use Rattle.mega_tape_laws.proofs.Replacing.{bind_turn, change_replaces}
use Rattle.mega_tape_laws.proofs.RootKeys.{one_table, no_entry}

pub none_fit : (s : Schema) → RowsFit s no_rows
none_fit s n t values key row at own none = absurd (no_some row none)
  where
    no_some : (x : Row) → None ≡ Some x → ⊥
    no_some x e = cc

module _ (s : Schema) (d : IsDeclared s) where
  -- what stands under a row key once a row of a table is replaced along with its local index writes
  row_now : (rows : Rows) (n : ℕ) (t : Table) (key : List ℕ) (old new : Option Row) → numbered s.tables n ≡ Some t → (m : ℕ) (u : Table) (values : List Value) (k : List ℕ) → numbered s.tables m ≡ Some u
      → key_of s m u values ≡ Ok k → written (replaced s n key old new) rows k ≡ cond (same_key key k) new (rows k)
  row_now rows n t key old new at m u values k there own =
      ap (λ o. written (index_writes_in s n o old new) (changed rows (record { key = key; row = new })) k) at
      ∙ turned_leaves (local_entries s n t old) (local_entries s n t new) (changed rows (record { key = key; row = new })) k (no_entry s d n m t u values k at there own old) (no_entry s d n m t u values k at there own new)

  pub replaced_fit : (rows : Rows) → RowsFit s rows → (n : ℕ) (t : Table) (key : List ℕ) (old new : Option Row) → numbered s.tables n ≡ Some t
      → ((row : Row) → new ≡ Some row → Standing s n t key row) → RowsFit s (written (replaced s n key old new) rows)
  replaced_fit rows fit n t key old new at fits m u values k row there own found = elim (same_or_not key k) [
    | inl same ↦
        let st = fits row (sym (ap (λ b. cond b new (rows k)) (ap (same_key key) (sym same) ∙ same_self key)) ∙ now) in
        let number : n ≡ m = one_table s d n m t u (key_values t.primary row) values k at there (st.own ∙ ap Ok same) own in
        let table : t ≡ u = (let e : Some t ≡ Some u = sym at ∙ ap (numbered s.tables) number ∙ there in cc) in
        stands s m u k row (coe 0 1 (i. Standing s (number i) (table i) (same i) row) st)
    | inr apart ↦ fit m u values k row there own (sym (ap (λ b. cond b new (rows k)) apart) ∙ now)
  ]
    where
      now : cond (same_key key k) new (rows k) ≡ Some row
      now = sym (row_now rows n t key old new at m u values k there own) ∙ found

  pub change_fits : (group : List ℕ) (rows : Rows) → RowsFit s rows → (i : ℕ) (c : Change) (writes : List Write) → change s group rows i c ≡ Ok writes → RowsFit s (written writes rows)
  change_fits group rows fit i c writes h =
      let r = change_replaces s group rows i writes c h in
      subst (λ w. RowsFit s (written w rows)) r.is
      (replaced_fit rows fit r.number r.table r.key (rows r.key) r.new r.numbered_is
      (r.fits (λ old stood. standing s r.number r.table r.key old (fit r.number r.table r.values r.key old r.numbered_is r.own stood))))

  pub changes_fit : (group : List ℕ) (rows : Rows) → RowsFit s rows → (i : ℕ) (cs : List Change) (writes : List Write) → all_changes s group rows i cs ≡ Ok writes → RowsFit s (written writes rows)
  changes_fit group rows fit i [] writes h = let same : [] ≡ writes = cc in subst (λ w. RowsFit s (written w rows)) same fit
  changes_fit group rows fit i (c ∷ cs) writes h =
      let a = bind_turn (change s group rows i c) (λ first. all_changes s group (written first rows) (i + 1) cs >>= λ others. Ok (first ++ others)) writes h in
      let b = bind_turn (all_changes s group (written a.0 rows) (i + 1) cs) (λ others. Ok (a.0 ++ others)) writes a.2 in
      let same : a.0 ++ b.0 ≡ writes = (let e = b.2 in cc) in
      let more = changes_fit group (written a.0 rows) (change_fits group rows fit i c a.0 a.1) (i + 1) cs b.0 b.1 in
      subst (λ w. RowsFit s (written w rows)) same (subst (RowsFit s) (sym (fold-append changed rows a.0 b.0)) more)
