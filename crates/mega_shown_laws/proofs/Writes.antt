-- What changes and handlers write: under each row key of a table a row that fits it.
use Rattle.std.proofs.Common.{◌≡◌, inl, inr, ℕ, ◌+◌, Bool, true, false, cond, if◌then◌else◌, List, [], ◌∷◌, ◌++◌, is_none, refl, sym, ap, ◌∙◌, subst, Option, Some, None, Ok}
use Rattle.mega_base.specs.declared.values.Row.{Row}
use Rattle.mega_base.specs.declared.values.Value.{Value}
use Rattle.mega_entry.specs.declared.content.Write.{Write}
use Rattle.mega_schema.specs.declared.schema.Schema.{Schema}
use Rattle.mega_schema.specs.declared.schema.Table.{Table}
use Rattle.mega_index.specs.Rows.{Listed, Rows, changed, row_under, same_key, written}
use Rattle.mega_index.specs.Cells.{key_values}
use Rattle.mega_index.specs.Fits.{key_of, numbered, stands_in}
use Rattle.mega_index.specs.Entries.{local_entries}
use Rattle.mega_index.specs.Fitted.{fitted_writes, is_kept, kept_write, table_of}
use Rattle.mega_index.specs.LocalWrites.{fresh, gone, index_writes, index_writes_in, is_row}
use Rattle.mega_outcome.specs.declared.transaction.Change.{Change}
use Rattle.mega_outcome.specs.Changes.{all_changes, change, replaced}
use Rattle.mega_outcome.specs.Places.{◌>>=◌}
use Rattle.mega_tape_laws.specs.Growing.{RowsFit}
use Rattle.mega_tape_laws.specs.Indexed.{IsDeclared}
use Rattle.mega_tape_laws.specs.Places.{In}
use Rattle.mega_tape_laws.proofs.Fitting.{change_fits}
use Rattle.mega_tape_laws.proofs.IndexSteps.{row_kept}
use Rattle.mega_index.proofs.KeyLists.{same_or_not, same_self}
use Rattle.mega_tape_laws.proofs.Replacing.{bind_turn, change_replaces}
use Rattle.mega_tape_laws.proofs.RootKeys.{no_entry, one_table}
use Rattle.mega_tape_laws.proofs.RowKeys.{Standing, of_table, standing, stands}
use Rattle.mega_format_laws.specs.Rounds.{Each}
use Rattle.mega_format_laws.proofs.Each.{each_both}
use Rattle.mega_row_laws.proofs.Writing.{in_under}

-- a row that is written under a row key of a table fits that table, and the key is its own
pub record Fitting (s : Schema) (w : Write) : Type 0 where
  pub fits : (n : ℕ) (t : Table) (values : List Value) (row : Row) → numbered s.tables n ≡ Some t → key_of s n t values ≡ Ok w.key → w.row ≡ Some row → stands_in s n (Some t) w.key row ≡ true

abbrev pub AreFitting : Schema → List Write → Type 0
AreFitting s writes = Each (Fitting s) writes

-- ---- rows after such writes

one_fits : (s : Schema) (rows : Rows) (w : Write) → RowsFit s rows → Fitting s w → RowsFit s (changed rows w)
one_fits s rows w fit is n t values key row at own found = elim (same_or_not w.key key) [
  | inl same ↦
      let now : w.row ≡ Some row = sym (ap (λ b. cond b w.row (rows key)) (ap (same_key w.key) (sym same) ∙ same_self w.key)) ∙ found in
      subst (λ k. stands_in s n (Some t) k row ≡ true) same (is.fits n t values row at (own ∙ ap Ok (sym same)) now)
  | inr apart ↦ fit n t values key row at own (sym (ap (λ b. cond b w.row (rows key)) apart) ∙ found)
]

pub all_fit : (s : Schema) (writes : List Write) (rows : Rows) → RowsFit s rows → AreFitting s writes → RowsFit s (written writes rows)
all_fit s [] rows fit are = fit
all_fit s (w ∷ writes) rows fit are = all_fit s writes (changed rows w) (one_fits s rows w fit are.0) are.1

-- ---- index entries

-- no row key of a table
abbrev IsApart : Schema → List ℕ → Type 0
IsApart s key = (n : ℕ) (t : Table) (values : List Value) → numbered s.tables n ≡ Some t → key_of s n t values ≡ Ok key → ⊥

apart_fits : (s : Schema) (key : List ℕ) (now : Option Row) → IsApart s key → Fitting s (record { key = key; row = now })
apart_fits s key now apart = record { fits = λ n t values row at own is. absurd (apart n t values at own) }

deleted_fits : (s : Schema) (key : List ℕ) → Fitting s (record { key = key; row = None })
deleted_fits s key = record { fits = λ n t values row at own is. absurd (no_row row is) }
  where
    no_row : (row : Row) → None ≡ Some row → ⊥
    no_row row is = cc

gone_fit : (s : Schema) (new es : Listed) → AreFitting s (gone new es)
gone_fit s new [] = tt
gone_fit s new (e ∷ es) = by (is_none (row_under new e.0)) (gone_fit s new es)
  where
    by : (b : Bool) → AreFitting s (gone new es) → AreFitting s (cond b (record { key = e.0; row = None } ∷ []) [] ++ gone new es)
    by true more = (deleted_fits s e.0, more)
    by false more = more

fresh_fit : (s : Schema) (old es : Listed) → ((e : List ℕ × Row) → In e es → IsApart s e.0) → AreFitting s (fresh old es)
fresh_fit s old [] apart = tt
fresh_fit s old (e ∷ es) apart = by (is_row (row_under old e.0) e.1) (fresh_fit s old es (λ d i. apart d (inr i)))
  where
    by : (b : Bool) → AreFitting s (fresh old es) → AreFitting s (cond b [] (record { key = e.0; row = Some e.1 } ∷ []) ++ fresh old es)
    by true more = more
    by false more = (apart_fits s e.0 (Some e.1) (apart e (inl refl)), more)

module _ (s : Schema) (d : IsDeclared s) where
  index_fit : (n : ℕ) (t : Table) (old new : Option Row) → numbered s.tables n ≡ Some t → AreFitting s (index_writes s n old new)
  index_fit n t old new at =
      subst (λ o. AreFitting s (index_writes_in s n o old new)) (sym at)
      (each_both (Fitting s) (gone (local_entries s n t new) (local_entries s n t old)) (fresh (local_entries s n t old) (local_entries s n t new))
      (gone_fit s (local_entries s n t new) (local_entries s n t old))
      (fresh_fit s (local_entries s n t old) (local_entries s n t new)
      (λ e i m u values there own. in_under (local_entries s n t new) e i (no_entry s d n m t u values e.0 at there own new))))

  -- a row of a table is replaced by one that stands there, along with its index entries
  replaced_fit : (n : ℕ) (t : Table) (key : List ℕ) (old new : Option Row) → numbered s.tables n ≡ Some t → ((row : Row) → new ≡ Some row → Standing s n t key row) → AreFitting s (replaced s n key old new)
  replaced_fit n t key old new at standing_new = (record { fits = own_fits }, index_fit n t old new at)
    where
      own_fits : (m : ℕ) (u : Table) (values : List Value) (row : Row) → numbered s.tables m ≡ Some u → key_of s m u values ≡ Ok key → new ≡ Some row → stands_in s m (Some u) key row ≡ true
      own_fits m u values row there own is =
          let st = standing_new row is in
          let number : n ≡ m = one_table s d n m t u (key_values t.primary row) values key at there st.own own in
          let table : t ≡ u = (let e : Some t ≡ Some u = sym at ∙ ap (numbered s.tables) number ∙ there in cc) in
          stands s m u key row (coe 0 1 (i. Standing s (number i) (table i) key row) st)

  -- ---- what a transaction writes

  change_fit : (group : List ℕ) (rows : Rows) → RowsFit s rows → (i : ℕ) (c : Change) (writes : List Write) → change s group rows i c ≡ Ok writes → AreFitting s writes
  change_fit group rows fit i c writes h =
      let r = change_replaces s group rows i writes c h in
      subst (AreFitting s) r.is
      (replaced_fit r.number r.table r.key (rows r.key) r.new r.numbered_is
      (r.fits (λ old stood. standing s r.number r.table r.key old (fit r.number r.table r.values r.key old r.numbered_is r.own stood))))

  pub changes_fit : (group : List ℕ) (rows : Rows) → RowsFit s rows → (i : ℕ) (cs : List Change) (writes : List Write) → all_changes s group rows i cs ≡ Ok writes → AreFitting s writes
  changes_fit group rows fit i [] writes h = let same : [] ≡ writes = cc in subst (AreFitting s) same tt
  changes_fit group rows fit i (c ∷ cs) writes h =
      let a = bind_turn (change s group rows i c) (λ first. all_changes s group (written first rows) (i + 1) cs >>= λ others. Ok (first ++ others)) writes h in
      let b = bind_turn (all_changes s group (written a.0 rows) (i + 1) cs) (λ others. Ok (a.0 ++ others)) writes a.2 in
      let same : a.0 ++ b.0 ≡ writes = (let e = b.2 in cc) in
      subst (AreFitting s) same
      (each_both (Fitting s) a.0 b.0 (change_fit group rows fit i c a.0 a.1) (changes_fit group (written a.0 rows) (change_fits s d group rows fit i c a.0 a.1) (i + 1) cs b.0 b.1))

  -- ---- what a handler writes

  kept_fit : (group : List ℕ) (seen : Rows) (write : Write) → AreFitting s (kept_write s (table_of s group write.key) seen write)
  kept_fit group seen write = by (table_of s group write.key) refl
    where
      tested : (n : ℕ) → table_of s group write.key ≡ Some n → (b : Bool) → is_kept s n write ≡ b → AreFitting s (if b then write ∷ index_writes s n (seen write.key) write.row else [])
      tested n at false is = tt
      tested n at true is =
          let r = of_table s group write.key n d.most at in
          replaced_fit n r.table write.key (seen write.key) write.row r.numbered_is
          (λ row same. standing s n r.table write.key row (sym (ap (λ o. stands_in s n o write.key row) r.numbered_is) ∙ sym (ap (row_kept s n write.key) same) ∙ is))

      by : (o : Option ℕ) → table_of s group write.key ≡ o → AreFitting s (kept_write s o seen write)
      by None at = tt
      by (Some n) at = tested n at (is_kept s n write) refl

  pub fitted_fit : (group : List ℕ) (seen : Rows) (writes : List Write) → AreFitting s (fitted_writes s group seen writes)
  fitted_fit group seen [] = tt
  fitted_fit group seen (write ∷ writes) =
      each_both (Fitting s) (kept_write s (table_of s group write.key) seen write) (fitted_writes s group (written (kept_write s (table_of s group write.key) seen write) seen) writes)
      (kept_fit group seen write) (fitted_fit group (written (kept_write s (table_of s group write.key) seen write) seen) writes)
